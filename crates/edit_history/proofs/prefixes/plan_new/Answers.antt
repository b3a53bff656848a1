use Rattle.std.proofs.Common.{◌≡◌, ℕ, ◌≤◌, List, [], ◌∷◌, ◌++◌, Result, Ok, Err, Some, ap, ◌∙◌, arith}
use Rattle.std.specs.Prelude.{OnErr, is_ok, if◌then◌else◌}
use Rattle.lsa_codec.specs.declared.key.Key.{Key}
use Rattle.lsa_codec.specs.Fields.{kind_of}
use Rattle.lsa_codec.specs.Key.{key_of}
use Rattle.lsdb.specs.declared.section.Section.{Section}
use Rattle.lsdb.specs.declared.slot.SlotId.{SlotId}
use Rattle.edit_history.specs.Exchange.{SwapData}
use Rattle.edit_history.proofs.prefixes.plan_new.Goals as goal

pushed_alone : {T E : Type 0} → (r : Result T E) (old new : List SwapData) (s : SwapData) (capacity count : ℕ)
    → new ≡ (if is_ok r then old ++ s ∷ [] else old) → OnErr r (capacity ≤ count) → count ≡ 0 → capacity ≡ 1 → old ≡ [] → new ≡ s ∷ []
pushed_alone {T} {E} (Ok x) old new s capacity count items full none one empty = items ∙ ap (λ (ss : List SwapData). ss ++ s ∷ []) empty
pushed_alone {T} {E} (Err y) old new s capacity count items full none one empty = absurd (omega (arith, full, none, one))

filled : (s : SwapData) (slot : SlotId) (name : Section) (key : Key) (x : List ℕ)
    → s ≡ record { slot = slot; section = name; kind = key.kind; other = Some x } → key ≡ key_of x
    → s ≡ record { slot = slot; section = name; kind = kind_of x; other = Some x }
filled s slot name key x is named =
    is ∙ ap (λ (k : Key). let t : SwapData = record { slot = slot; section = name; kind = k.kind; other = Some x } in t) named

pub returns-clause-opened : goal.returns-clause-opened
returns-clause-opened g c = record {
  slot = c.in-Ok.slot;
  opens = c.in-Ok.ensures.ok;
  swap = pushed_alone c.push.result c.in_ok-swaps.swaps.items c.push.new.self.items c.new.result _ _ c.push.ensures.items
      c.push.ensures.full c.in_ok-swaps.ensures.len c.in_ok-swaps.ensures.exact c.in_ok-swaps.ensures.items
      ∙ ap (λ (s : SwapData). s ∷ []) (filled c.new.result c.in-Ok.slot c.args.section c.key-kind.result c.args.lsa c.new.ensures c.key-kind.ensures);
}
