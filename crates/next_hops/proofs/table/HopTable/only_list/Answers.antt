use Rattle.std.proofs.Common.{◌≡◌, ◌∙◌, ℕ, ◌<◌, [], ◌∷◌, length, map, sym, ap, subst}
use Rattle.std.proofs.lemmas.List.{get_or-map, length-map}
use Rattle.std.proofs.lemmas.List.Elements.{All-get_or, All-head}
use Rattle.next_hops.specs.FirstHops.{hops_at}
use Rattle.next_hops.specs.steps.Handed.{handed_hops, numbers_in}
use Rattle.next_hops.specs.steps.Shared.{AreWithin}
use Rattle.next_hops.proofs.Keeping.{IsJoin-one}
use Rattle.next_hops.proofs.table.HopTable.only_list.Goals as goal

pub returns-in-One-clause-within : goal.returns-in-One-clause-within
returns-in-One-clause-within g c =
    let lists = c.args.self.now.lists.keys in
    let vertices = c.args.self.now.vertices.items in
    let handed = c.index.result.now in
    let n = c.in-One.number in
    let within : c.args.index < length vertices = subst (λ (m : ℕ). c.args.index < m) (length-map vertices (λ v. handed_hops lists v)) c.requires.index in
    let parts : AreWithin lists (numbers_in handed) = subst (λ v. AreWithin lists (numbers_in v)) (sym c.index.ensures)
    (All-get_or (λ v. AreWithin lists (numbers_in v)) vertices c.args.index handed within c.requires.whole.within) in
    All-head (λ m. m < length lists) n [] (subst (λ v. AreWithin lists (numbers_in v)) c.in-One.is parts)

pub returns-in-One-clause-list : goal.returns-in-One-clause-list
returns-in-One-clause-list g c =
    let lists = c.args.self.now.lists.keys in
    let vertices = c.args.self.now.vertices.items in
    let handed = c.index.result.now in
    let n = c.in-One.number in
    let within : c.args.index < length vertices = subst (λ (m : ℕ). c.args.index < m) (length-map vertices (λ v. handed_hops lists v)) c.requires.index in
    (IsJoin-one lists c.requires.whole.sorted n (returns-in-One-clause-within g c)).hops
    ∙ ap (λ v. handed_hops lists v) (sym c.in-One.is ∙ c.index.ensures)
    ∙ sym (get_or-map (λ v. handed_hops lists v) vertices c.args.index handed [] within)
