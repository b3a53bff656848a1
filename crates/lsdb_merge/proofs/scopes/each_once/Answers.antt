use Rattle.std.proofs.Common.{◌≡◌, ◌<◌, ◌∙◌, sym, ap, true, false, List, [], ◌∷◌, ◌++◌, length, get_or, take}
use Rattle.std.proofs.lemmas.List.{get_or_default}
use Rattle.lsa_instances.specs.declared.place.Scope.{Scope}
use Rattle.lsa_instances.specs.declared.place.Scope.TheVariants.{Area}
use Rattle.lsdb_merge.specs.steps.Scopes.{AreOnce, is_after_last}
use Rattle.lsdb_merge.proofs.Growing.{item_more}
use Rattle.lsdb_merge.proofs.Rising.{known, new, reaches}
use Rattle.lsdb_merge.proofs.scopes.each_once.Goals.{then-is_after_last+in_ok-push, else-is_after_last}
use Rattle.lsdb_merge.proofs.scopes.each_once.Goals as goal

pub loop-scope-preserved : goal.loop-scope-preserved
loop-scope-preserved g c =
    let all : List Scope = c.args.sorted.now in
    let i = c.loop-scope.scope-index in
    let x : Scope = get_or all i (Area (record { 0 = 0 })) in
    let l : i < length all = c.loop-scope-test.true in
    let e : x ≡ get_or all i x = get_or_default all i (Area (record { 0 = 0 })) x l in
    let p : List Scope = take i all in
    let o : List Scope = c.loop-scope.once.items in
    let more = item_more all i x l e in
    let up = reaches all i x c.requires l e in
    let k = c.loop-scope.invariant in
    let seen : c.is_after_last.result ≡ is_after_last o x = c.is_after_last.ensures.after ∙ ap (λ (s : List Scope). is_after_last s x) c.deref.ensures.value in
    let P : List Scope → List Scope → Type 0 = λ a b. AreOnce a b in
    elim c.if-is_after_last.branch [
      | then-is_after_last+in_ok-push w ↦
          let pushed : c.if-is_after_last.once.items ≡ o ++ x ∷ [] = ap (λ v. v.items) w.once-is ∙ w.in_ok-push.ensures.items in
          let b : is_after_last o x ≡ true = let t = w.if-is_after_last in sym seen ∙ t.true in
          rw (more, pushed) (new p x up o k c.is_after_last.ensures.wide b)
      | else-is_after_last w ↦
          let kept : c.if-is_after_last.once.items ≡ o = ap (λ v. v.items) w.once-is in
          let b : is_after_last o x ≡ false = let t = w.if-is_after_last in sym seen ∙ t.false in
          rw (more, kept) (known p x up o k b)
    ]
