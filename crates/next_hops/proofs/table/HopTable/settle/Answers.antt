use Rattle.std.proofs.Common.{◌≡◌, ◌∙◌, ℕ, ◌<◌, List, [], length, map, get_or, sym, ap, subst}
use Rattle.std.proofs.lemmas.List.{get_or-map, length-map}
use Rattle.std.proofs.lemmas.List.Elements.{All-get_or, All-set}
use Rattle.std.proofs.Math.Seq.{map-set_same}
use Rattle.area_graph.specs.Rising.{rising}
use Rattle.next_hops.specs.declared.hop.Hop.{Hop}
use Rattle.next_hops.specs.declared.handed.Handed.TheVariants.{One}
use Rattle.next_hops.specs.Hop.{hop_cmp}
use Rattle.next_hops.specs.FirstHops.{hops_at}
use Rattle.next_hops.specs.steps.Handed.{handed_hops, numbers_in}
use Rattle.next_hops.specs.steps.Shared.{AreWithin}
use Rattle.next_hops.proofs.Keeping.{AreWhole-kept, IsJoin-one, hops-kept, hops_in-kept}
use Rattle.next_hops.proofs.table.HopTable.settle.Goals as goal

pub returns-clause-list : goal.returns-clause-list
returns-clause-list g c =
    let old = c.args.self.now.lists.keys in
    let new = c.number_for.new.lists.keys in
    let vertices = c.args.self.now.vertices.items in
    let index = c.args.index in
    let handed = c.index-handed.result.now in
    let within : index < length vertices = subst (λ (m : ℕ). index < m) (length-map vertices (λ v. handed_hops old v)) c.requires.index in
    let parts : AreWithin old (numbers_in handed) = subst (λ v. AreWithin old (numbers_in v)) (sym c.index-handed.ensures)
    (All-get_or (λ v. AreWithin old (numbers_in v)) vertices index handed within c.requires.whole.within) in
    let read : hops_at (map (λ v. handed_hops old v) vertices) index ≡ handed_hops old handed = get_or-map (λ v. handed_hops old v) vertices index handed [] within
    ∙ ap (λ v. handed_hops old v) (sym c.index-handed.ensures) in
    c.in_ok-number.ensures.join.hops
    ∙ ap (λ (hops : List Hop). rising hop_cmp hops) (hops_in-kept old new c.in_ok-number.ensures.keeps (numbers_in handed) parts)
    ∙ sym read

pub returns-clause-stays : goal.returns-clause-stays
returns-clause-stays g c =
    let old = c.args.self.now.lists.keys in
    let new = c.number_for.new.lists.keys in
    let vertices = c.args.self.now.vertices.items in
    let index = c.args.index in
    let handed = c.index-handed.result.now in
    let n = c.in_ok-number.number in
    let join = c.in_ok-number.ensures.join in
    let keeps = c.in_ok-number.ensures.keeps in
    let whole = AreWhole-kept old new keeps c.args.self.now.joins.entries vertices c.requires.whole in
    let alone = IsJoin-one new whole.sorted n join.within in
    let same : handed_hops new (One n) ≡ handed_hops new (get_or vertices index handed) =
    sym alone.hops ∙ join.hops ∙ ap (λ v. handed_hops new v) c.index-handed.ensures in
    record {
      hops = map-set_same (λ v. handed_hops new v) vertices index (One n) handed same ∙ hops-kept old new keeps vertices c.requires.whole.within;
      keeps = keeps;
      whole = record {
        sorted = whole.sorted;
        joined = c.in_ok-number.ensures.joined;
        within = All-set (λ v. AreWithin new (numbers_in v)) vertices index (One n) alone.parts whole.within;
      };
    }
