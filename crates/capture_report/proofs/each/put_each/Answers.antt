use Rattle.std.proofs.Common.{◌≡◌, ℕ, ◌+◌, ◌<◌, ◌≤◌, List, [], ◌∷◌, ◌++◌, length, map, take, get_or, sym, ap, append_assoc, ◌∙◌, arith}
use Rattle.std.proofs.lemmas.List.{append-nil, map_more, take_all}
use Rattle.capture_report.proofs.each.put_each.Goals as goal

one_more : {X Y : Type 0} (made : X → Y) (old before after : List Y) (items : List X) (i : ℕ) (item : X) (one : Y) → i < length items
    → item ≡ get_or items i item → one ≡ made item → before ≡ old ++ map made (take i items) → after ≡ before ++ one ∷ []
    → after ≡ old ++ map made (take (i + 1) items)
one_more made old before after items i item one within is e h pushed =
    pushed ∙ (λ j. h j ++ (e ∙ ap made is) j ∷ [])
    ∙ append_assoc old (map made (take i items)) (made (get_or items i item) ∷ [])
    ∙ ap (λ added. old ++ added) (sym (map_more made items i item within))

all_of_them : {X Y : Type 0} (made : X → Y) (old new : List Y) (items : List X) (i : ℕ) → length items ≤ i → new ≡ old ++ map made (take i items)
    → new ≡ old ++ map made items
all_of_them made old new items i all h = h ∙ ap (λ these. old ++ map made these) (take_all i items all)

pub loop-item-init : goal.loop-item-init
loop-item-init g c = λ made says. sym (append-nil c.args.findings.now.items)

pub loop-item-preserved : goal.loop-item-preserved
loop-item-preserved g c = λ made says.
    one_more made _ c.loop-item.findings.items _ c.args.items.now c.loop-item.item-index c.item-item.result c.finding.result (omega arith)
    c.item-item.is (says c.item-item.result c.finding.result c.finding.ensures) (c.loop-item.invariant made says) c.in_ok-push.ensures.items

pub returns : goal.returns
returns g c = λ made says.
    all_of_them made _ c.loop-item.findings.items c.args.items.now c.loop-item.item-index (omega arith) (c.loop-item.invariant made says)
