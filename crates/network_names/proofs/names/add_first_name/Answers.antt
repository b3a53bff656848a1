use Rattle.std.proofs.Common.{ℕ, List, Option, is_some, sym, ap, ◌∙◌}
use Rattle.std.specs.Prelude.{option_map}
use Rattle.std.specs.Borrow.{Bor}
use Rattle.std.specs.Ordering.{is_eq, nat_cmp}
use Rattle.std.specs.BTreeMap.{get}
use Rattle.network_names.proofs.OneMore.{map_cond, name_added, name_kept, none_from, some_map}
use Rattle.network_names.proofs.names.add_first_name.Goals as goal

abbrev text : Bor (List ℕ) → List ℕ
text name = name.now

pub returns-then-contains_key : goal.returns-then-contains_key
returns-then-contains_key g c = λ all before router.
    before router
    ∙ name_kept all c.args.name.now c.args.address
    (ap (λ (o : Option (List ℕ)). is_some o) (sym (before c.args.address)) ∙ some_map text (get nat_cmp c.args.first_names.now c.args.address)
    ∙ sym c.contains_key.ensures ∙ c.if-contains_key.true)
    router

pub returns : goal.returns
returns g c = λ all before.
    name_added all c.args.name.now c.args.address
    (λ router. option_map text (get nat_cmp c.args.first_names.now router))
    (λ router. option_map text (get nat_cmp c.insert.new.self router))
    before
    (sym (before c.args.address)
    ∙ ap (option_map text) (none_from (get nat_cmp c.args.first_names.now c.args.address) (sym c.contains_key.ensures ∙ c.if-contains_key.false)))
    (λ router. ap (option_map text) (c.in_ok-insert.ensures.updates.0 router)
    ∙ map_cond text (is_eq (nat_cmp c.args.address router)) c.args.name (get nat_cmp c.args.first_names.now router))
