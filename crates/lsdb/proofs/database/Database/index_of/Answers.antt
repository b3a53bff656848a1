use Rattle.std.proofs.Common.{arith, ◌∙◌, sym, ◌≡◌, drop, length, ℕ, suc, ◌+◌, subst, vec_len, rules}
use Rattle.std.specs.List.{find}
use Rattle.lsdb.specs.Lists.{is_section}
use Rattle.lsdb.specs.Slots.{Slots, IsNamed, lists_of}
use Rattle.lsdb.specs.steps.View.{slots_of}
use Rattle.lsdb.proofs.Searching.{section_turn, find_hit, find_miss}
use Rattle.lsdb.proofs.database.Database.index_of.Goals as goal

pub returns-then-is_head_of : goal.returns-then-is_head_of
returns-then-is_head_of g c =
    let ss = c.self.inside.sections.items in
    let sized : vec_len c.self.inside.sections ≡ length ss = search rules in
    let i = c.loop-index.index in
    let t = section_turn ss i (suc i) c.index.result.now (omega arith) (omega arith) c.index.ensures in
    let hit = find_hit (is_section c.args.section) (lists_of (slots_of ss)) (drop (suc i) (lists_of (slots_of ss))) i _ t.here t.rest
    (sym c.is_head_of.ensures ∙ c.if-is_head_of.true)
    (subst (λ (d : Slots). find (is_section c.args.section) (drop i (lists_of d)) ≡ find (is_section c.args.section) (lists_of d))
    (sym c.self.view_is) c.loop-index.invariant) in
    subst (λ (d : Slots). IsNamed d c.args.section i) c.self.view_is (record { same = hit.0; exists = hit.1 })

pub loop-index-preserved : goal.loop-index-preserved
loop-index-preserved g c =
    let ss = c.self.inside.sections.items in
    let sized : vec_len c.self.inside.sections ≡ length ss = search rules in
    let i = c.loop-index.index in
    let j : ℕ = i + 1 in
    let t = section_turn ss i j c.index.result.now (omega arith) (omega arith) c.index.ensures in
    subst (λ (d : Slots). find (is_section c.args.section) (drop j (lists_of d)) ≡ find (is_section c.args.section) (lists_of d)) c.self.view_is
    (find_miss (is_section c.args.section) (lists_of (slots_of ss)) (drop j (lists_of (slots_of ss))) i _ t.rest
    (sym c.is_head_of.ensures ∙ c.if-is_head_of.false)
    (subst (λ (d : Slots). find (is_section c.args.section) (drop i (lists_of d)) ≡ find (is_section c.args.section) (lists_of d))
    (sym c.self.view_is) c.loop-index.invariant))
