use Rattle.std.proofs.Common.{◌∙◌, [], ◌∷◌, ◌++◌, List, ℕ, map, sym, ap}
use Rattle.std.proofs.lemmas.Iterator.Consumers.{YieldsList-end, YieldsList-from_first}
use Rattle.std.proofs.lemmas.List.{map-append}
use Rattle.lsa_names.specs.declared.lsa_name.LsaName.{LsaName}
use Rattle.audit_lsas.specs.Found.{names_of}
use Rattle.audit_lsas.proofs.Names.{names_adds}
use Rattle.audit_lsas.proofs.found.names_of.Goals as goal

pub loop-lsa-preserved : goal.loop-lsa-preserved
loop-lsa-preserved g c =
    let test = g.T.LsaTest.passes_as c.args.test.now in
    let scope = c.args.scope in
    let so_far = map (λ lsa. lsa.now) c.loop-lsa.yielded in
    c.in_ok-push_passing.ensures
    ∙ ap (λ (l : List LsaName). l ++ names_of test scope (c.in-Some.lsa.now ∷ [])) c.loop-lsa.invariant
    ∙ sym (ap (names_of test scope) (map-append (λ lsa. lsa.now) c.loop-lsa.yielded (c.in-Some.lsa ∷ []))
    ∙ (names_adds test scope).push so_far c.in-Some.lsa.now)

pub returns : goal.returns
returns g c =
    let test = g.T.LsaTest.passes_as c.args.test.now in
    let seen = YieldsList-end (YieldsList-from_first (λ lsa. lsa.now) (λ lsas. lsas) c.args.lsas c.into_iter-lsa-iterator.ensures.into_iter_gives)
    c.loop-lsa.yielded _ c.loop-lsa.yielded_by _ _ c.in-None.is c.next.ensures.steps in
    c.loop-lsa.invariant ∙ ap (λ (lsas : List (List ℕ)). names_of test c.args.scope lsas) seen.0
