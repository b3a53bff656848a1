use Rattle.std.proofs.Common.{◌≡◌, ◌∙◌, ◌<◌, ℕ, List, [], length, get_or, sym, ap, subst, arith}
use Rattle.std.proofs.lemmas.List.{length-map}
use Rattle.std.proofs.lemmas.List.Elements.{All-push}
use Rattle.next_hops.specs.declared.hop.Hop.{Hop}
use Rattle.next_hops.specs.FirstHops.{hops_at}
use Rattle.next_hops.specs.steps.Handed.{handed_hops}
use Rattle.next_hops.specs.steps.Shared.{AreWithin, list_in, lists_in}
use Rattle.next_hops.specs.steps.Table.{hops_so_far}
use Rattle.next_hops.proofs.Keeping.{AreWithin-kept}
use Rattle.next_hops.proofs.Sharing.{lists_in-push}
use Rattle.next_hops.proofs.Tables.{Stays-then}
use Rattle.next_hops.proofs.table.HopTable.numbers.Goals as goal

pub loop-index-preserved : goal.loop-index-preserved
loop-index-preserved g c =
    let begun = c.args.self.now in
    let table : List (List Hop) = hops_so_far begun in
    let old = c.loop-index.self in
    let new = c.settle_or.new.self in
    let numbers = c.loop-index.numbers.items in
    let i = c.loop-index.index in
    let n = c.in_ok-settle_or.field-0 in
    let before = c.loop-index.invariant in
    let keeps = c.in_ok-settle_or.ensures.stays.keeps in
    let ready = c.number_of.new.self in
    let size : length table ≡ length ready.vertices.items =
    ap (λ (t : List (List Hop)). length t) (sym c.in_ok-none.ensures.stays.hops) ∙ length-map ready.vertices.items (λ v. handed_hops ready.lists.keys v) in
    let count : c.len-index-end.result ≡ length ready.vertices.items = c.len-index-end.ensures ∙ ready.vertices.ok.0 in
    let within : i < length table = omega arith in
    let next : list_in new.lists.keys n ≡ get_or table i [] = c.in_ok-settle_or.ensures.list ∙ ap (λ (t : List (List Hop)). hops_at t i) before.stays.hops in
    record {
      stays = Stays-then begun old new before.stays c.in_ok-settle_or.ensures.stays;
      kept = omega (arith, keeps.no_less, before.kept);
      none = keeps.same c.in_ok-none.none before.kept ∙ before.none;
      within = subst (λ (xs : List ℕ). AreWithin new.lists.keys xs) (sym c.in_ok-push.ensures.items)
          (All-push (λ m. m < length new.lists.keys) numbers n (AreWithin-kept old.lists.keys new.lists.keys keeps numbers before.within)
          c.in_ok-settle_or.ensures.within);
      same = ap (λ (xs : List ℕ). lists_in new.lists.keys xs) c.in_ok-push.ensures.items
          ∙ lists_in-push old.lists.keys new.lists.keys numbers n i table keeps before.within within before.same next;
    }
