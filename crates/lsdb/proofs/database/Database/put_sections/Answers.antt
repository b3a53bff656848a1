use Rattle.std.proofs.Common.{arith, rules, ◌≡◌, ◌∙◌, ◌++◌, ap, sym, subst, take, length, vec_len, List, ℕ, ◌+◌, ◌-◌, ◌%◌, ◌≤◌, [], ◌∷◌}
use Rattle.std.specs.List.{flat_map}
use Rattle.std.proofs.lemmas.List.{append-nil, length-map}
use Rattle.lsdb.specs.Slots.{Slots, lists_of}
use Rattle.lsdb.specs.steps.View.{slots_of}
use Rattle.lsdb.specs.Text.{section_text}
use Rattle.lsdb.specs.BaseText.{sections_text}
use Rattle.lsdb.proofs.Searching.{section_count}
use Rattle.lsdb.proofs.Written.{counted, section_few, section_next, sections_done}
use Rattle.lsdb.proofs.database.Database.put_sections.Goals as goal

pub put_section-requires : goal.put_section-requires
put_section-requires g c =
    let same = c.deref-section-items.ensures.value in
    section_few c.self.inside.sections.items c.loop-section.section-index c.section-item.result c.self.invariant.sound
    (rw same at c.loop-section-test.true) (rw same at c.section-item.is)

pub loop-section-preserved : goal.loop-section-preserved
loop-section-preserved g c =
    let same = c.deref-section-items.ensures.value in
    let i = c.loop-section.section-index in
    let j : ℕ = i + 1 in
    let start : List ℕ = counted c.args.out.now.items (lists_of c.args.self.now) in
    subst (λ (d : Slots). c.put_section.new.out.items ≡ start ++ flat_map section_text (take j (lists_of d))) c.self.view_is
    (section_next c.self.inside.sections.items i j c.section-item.result start c.loop-section.out.items c.put_section.new.out.items
    (rw same at c.loop-section-test.true) (omega arith) (rw same at c.section-item.is) c.in_ok-put_section.ensures
    (subst (λ (d : Slots). c.loop-section.out.items ≡ start ++ flat_map section_text (take i (lists_of d))) (sym c.self.view_is) c.loop-section.invariant))

pub returns : goal.returns
returns g c =
    let same = c.deref-section-items.ensures.value in
    let i = c.loop-section.section-index in
    let before : List ℕ = c.args.out.now.items in
    subst (λ (d : Slots). c.loop-section.out.items ≡ before ++ sections_text (lists_of d)) c.self.view_is
    (sections_done c.self.inside.sections.items i before c.loop-section.out.items (rw same at c.loop-section-test.false)
    (subst (λ (d : Slots). c.loop-section.out.items ≡ counted before (lists_of d) ++ flat_map section_text (take i (lists_of d)))
    (sym c.self.view_is) c.loop-section.invariant))

pub loop-section-init : goal.loop-section-init
loop-section-init g c =
    let ss = c.self.inside.sections.items in
    let sized : vec_len c.self.inside.sections ≡ length ss = search rules in
    let count : c.len.result ≡ length (lists_of c.args.self.now) =
    c.len.ensures ∙ sized ∙ sym (section_count ss) ∙ ap (λ (d : Slots). length (lists_of d)) c.self.view_is in
    let few : length ss ≤ 65 =
    omega (arith, c.self.invariant.sound.heads.few, length-map (lists_of (slots_of ss)) (λ s. s.area), section_count ss) in
    let byte : c.len.result - 1 ≡ (length (lists_of c.args.self.now) - 1) % 256 = omega (arith, count, few, c.len.ensures, sized) in
    c.in_ok-push.ensures.items ∙ ap (λ (n : ℕ). c.args.out.now.items ++ n ∷ []) byte ∙ sym (append-nil _)
