use Rattle.std.proofs.Common.{◌≡◌, ◌++◌, ◌∙◌, Bool, List, sym, ap}
use Rattle.std.specs.Prelude.{◌||◌}
use Rattle.area_candidates.specs.declared.draft.Draft.{Draft}
use Rattle.area_candidates.specs.Between.{inter_drafts}
use Rattle.area_candidates.specs.Views.{AreaViewValue}
use Rattle.area_candidates.specs.Within.{intra_drafts}
use Rattle.route_candidates.specs.declared.candidate.Candidate.{Candidate}
use Rattle.route_candidates.specs.Candidates.{between, outside, views, within}
use Rattle.route_candidates.specs.Decided.{decided, has_left}
use Rattle.route_candidates.specs.Outside.{external_drafts}
use Rattle.route_candidates.proofs.all_candidates.candidates.Goals as goal
use Rattle.route_candidates.proofs.all_candidates.candidates.Goals.{then-is_within, else-is_within}

-- three lists of candidates, one after another
joined : (found second third next last : List Candidate) (a b d : List Draft)
    → found ≡ decided a → second ≡ decided b → third ≡ decided d → next ≡ found ++ second → last ≡ next ++ third
    → last ≡ decided a ++ decided b ++ decided d
joined found second third next last a b d p q r n l =
    l ∙ ap (λ (cs : List Candidate). cs ++ third) (n ∙ ap (λ (cs : List Candidate). cs ++ second) p ∙ ap (λ (cs : List Candidate). decided a ++ cs) q)
    ∙ ap (λ (cs : List Candidate). (decided a ++ decided b) ++ cs) r

pub returns : goal.returns
returns g c =
    let view = c.args.view.now in
    let net = c.args.net in
    let a : c.in_ok-within.within.items ≡ within view net =
    c.in_ok-within.ensures ∙ ap (λ (vs : List AreaViewValue). intra_drafts vs net) c.areas.ensures in
    let left : c.has_left-is_within.result ≡ has_left (within view net) = c.has_left-is_within.ensures ∙ ap has_left (c.deref.ensures.value ∙ a) in
    let b : c.in_ok-between.between.items ≡ between view net =
    c.in_ok-between.ensures ∙ ap (λ (vs : List AreaViewValue). inter_drafts c.has_left-is_within.result vs net) c.areas-2.ensures
    ∙ ap (λ (t : Bool). inter_drafts t (views view net) net) left in
    let inside : c.if-is_within.is_inside ≡ (has_left (within view net) || has_left (between view net)) =
    elim c.if-is_within.branch [
      | then-is_within w ↦
          w.is_inside-is ∙ w.if-is_within.true ∙ sym (ap (λ (t : Bool). t || has_left (between view net)) (sym left ∙ w.if-is_within.true))
      | else-is_within w ↦
          w.is_inside-is ∙ w.has_left-is_inside.ensures ∙ ap has_left (w.deref-else-is_within.ensures.value ∙ b)
          ∙ sym (ap (λ (t : Bool). t || has_left (between view net)) (sym left ∙ w.if-is_within.false))
    ] in
    let d : c.in_ok-outside.outside.items ≡ outside view net =
    c.in_ok-outside.ensures ∙ ap (λ (t : Bool). external_drafts t view net) inside in
    joined c.in_ok-found.found.items c.in_ok-decided.field-0.items c.in_ok-decided-2.field-0.items c.append.new.self.items c.append-2.new.self.items
    (within view net) (between view net) (outside view net)
    (c.in_ok-found.ensures ∙ ap decided (c.deref-2.ensures.value ∙ a))
    (c.in_ok-decided.ensures ∙ ap decided (c.deref-3.ensures.value ∙ b))
    (c.in_ok-decided-2.ensures ∙ ap decided (c.deref-4.ensures.value ∙ d))
    c.in_ok-append.ensures.items c.in_ok-append-2.ensures.items
