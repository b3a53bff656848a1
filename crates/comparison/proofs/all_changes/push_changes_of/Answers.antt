use Rattle.std.proofs.Common.{◌≡◌, ◌++◌, Option, subst}
use Rattle.std.specs.Prelude.{IfOk, OnOk}
use Rattle.std.specs.Option.{option_copied}
use Rattle.forwarding.specs.Matches.{RouterValue}
use Rattle.comparison.specs.Compared.{Compared}
use Rattle.comparison.specs.Named.{names_by, unchanged_by}
use Rattle.comparison.proofs.Steps.{of_both}
use Rattle.comparison.proofs.all_changes.push_changes_of.Goals as goal

pub returns-clause-names : goal.returns-clause-names
returns-clause-names g c =
    of_both c.args.comparison.now c.args.router _ _ (option_copied c.routes_of-was.result) (option_copied c.routes_of-is.result)
    (λ (was is : Option RouterValue). OnOk c.push_changes.result
    (c.push_changes.new.names.items ≡ c.args.names.now.items ++ names_by c.args.comparison.now c.args.router was is))
    c.were.ensures c.are.ensures c.routes_of-was.ensures c.routes_of-is.ensures
    (subst (λ (both : Compared). OnOk c.push_changes.result
    (c.push_changes.new.names.items ≡ c.args.names.now.items
    ++ names_by both c.args.router (option_copied c.routes_of-was.result) (option_copied c.routes_of-is.result)))
    c.databases.ensures c.push_changes.ensures.names)

pub returns-clause-unchanged : goal.returns-clause-unchanged
returns-clause-unchanged g c =
    of_both c.args.comparison.now c.args.router _ _ (option_copied c.routes_of-was.result) (option_copied c.routes_of-is.result)
    (λ (was is : Option RouterValue). IfOk c.push_changes.result (λ count. count ≡ unchanged_by c.args.comparison.now was is))
    c.were.ensures c.are.ensures c.routes_of-was.ensures c.routes_of-is.ensures
    (subst (λ (both : Compared). IfOk c.push_changes.result (λ count. count
    ≡ unchanged_by both (option_copied c.routes_of-was.result) (option_copied c.routes_of-is.result)))
    c.databases.ensures c.push_changes.ensures.unchanged)
