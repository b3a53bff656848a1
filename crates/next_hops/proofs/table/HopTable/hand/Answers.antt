use Rattle.std.proofs.Common.{ℕ, ◌<◌, length, sym, subst}
use Rattle.std.proofs.lemmas.List.{length-map}
use Rattle.std.proofs.lemmas.List.Elements.{All-get_or, All-set}
use Rattle.std.proofs.lemmas.Result.{on_ok_weaker}
use Rattle.next_hops.specs.steps.Handed.{numbers_in, handed_hops}
use Rattle.next_hops.specs.steps.Shared.{AreWithin}
use Rattle.next_hops.proofs.Adding.{AreWithin-added, Grows-handed}
use Rattle.next_hops.proofs.Sharing.{Keeps-same}
use Rattle.next_hops.proofs.table.HopTable.hand.Goals as goal

pub returns : goal.returns
returns g c =
    let lists = c.args.self.now.lists.keys in
    let vertices = c.args.self.now.vertices.items in
    let to = c.args.to in
    let n = c.args.number in
    let was = c.index_mut.result.now in
    let now = c.add.new.self in
    let whole = c.requires.whole in
    let within : to < length vertices = subst (λ (m : ℕ). to < m) (length-map vertices (λ v. handed_hops lists v)) c.requires.to in
    let parts : AreWithin lists (numbers_in was) = subst (λ handed. AreWithin lists (numbers_in handed)) (sym c.index_mut.ensures.value)
    (All-get_or (λ v. AreWithin lists (numbers_in v)) vertices to was within whole.within) in
    on_ok_weaker c.add.result
    (λ adds. record {
      grows = Grows-handed lists vertices to n was now within c.index_mut.ensures.value adds;
      keeps = Keeps-same lists;
      whole = record {
        sorted = whole.sorted;
        joined = whole.joined;
        within = All-set (λ v. AreWithin lists (numbers_in v)) vertices to now
            (AreWithin-added lists n (numbers_in was) (numbers_in now) adds parts c.requires.number) whole.within;
      };
    })
    c.add.ensures
