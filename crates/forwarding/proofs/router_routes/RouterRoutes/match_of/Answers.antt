use Rattle.std.proofs.Common.{◌≡◌, ℕ, ◌-◌, ◌∙◌, Some, None, sym, subst, arith, ⊎_elim}
use Rattle.std.proofs.lemmas.Bool.{cases_eq}
use Rattle.lsa_codec.specs.Prefix.{Net, masked}
use Rattle.forwarding.specs.Matches.{entry_for}
use Rattle.forwarding.proofs.LongestMatchLemmas.{match_found, match_none}
use Rattle.forwarding.proofs.router_routes.RouterRoutes.match_of.Goals as goal

pub loop-shorter-init : goal.loop-shorter-init
loop-shorter-init g c = λ db are len over le. absurd (omega arith)

pub loop-shorter-preserved : goal.loop-shorter-preserved
loop-shorter-preserved g c = λ db are len over le.
    ⊎_elim
    (λ same. subst (λ (n : ℕ). entry_for db c.args.self.now (masked c.args.address n) ≡ None) (sym same)
    (sym (subst (λ (net : Net). None ≡ entry_for db c.args.self.now net) c.masked-net.ensures (sym c.in_default.is ∙ c.in_ok-found.ensures db are))))
    (λ other. c.loop-shorter.invariant db are len (omega arith) le)
    (cases_eq len (32 - c.loop-shorter.shorter))

pub returns-in-Some : goal.returns-in-Some
returns-in-Some g c = λ db are.
    match_found (entry_for db c.args.self.now) c.args.address (32 - c.loop-shorter.shorter) c.in-Some.found (omega arith)
    (sym (subst (λ (net : Net). Some c.in-Some.found ≡ entry_for db c.args.self.now net) c.masked-net.ensures (sym c.in-Some.is ∙ c.in_ok-found.ensures db are)))
    (λ longer lt le. c.loop-shorter.invariant db are longer (omega arith) le)

pub returns : goal.returns
returns g c = λ db are.
    match_none (entry_for db c.args.self.now) c.args.address (λ len le. c.loop-shorter.invariant db are len (omega arith) le)
