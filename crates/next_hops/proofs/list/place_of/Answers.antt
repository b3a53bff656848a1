use Rattle.std.proofs.Common.{◌≡◌, ◌∙◌, sym}
use Rattle.std.specs.declared.cmp.Ordering.TheVariants.{Less, Equal}
use Rattle.next_hops.specs.Hop.{hop_cmp}
use Rattle.next_hops.proofs.Inserted.{searched_by, put_after, put_at_last}
use Rattle.next_hops.proofs.list.place_of.Goals as goal

pub returns-in-Less-clause-place : goal.returns-in-Less-clause-place
returns-in-Less-clause-place c =
    let last = c.in-Some.last.now in
    let before : hop_cmp last c.args.hop.now ≡ Less = sym (c.cmp.ensures ∙ c.hop_order.ensures.order last c.args.hop.now) ∙ c.in-Less.is in
    put_after c.args.hops.now c.args.hop.now last c.requires (sym c.in-Some.ensures.value) before

pub returns-in-Equal-clause-place : goal.returns-in-Equal-clause-place
returns-in-Equal-clause-place c =
    let last = c.in-Some.last.now in
    let same : hop_cmp last c.args.hop.now ≡ Equal = sym (c.cmp.ensures ∙ c.hop_order.ensures.order last c.args.hop.now) ∙ c.in-Equal.is in
    put_at_last c.args.hops.now c.args.hop.now last c.requires (sym c.in-Some.ensures.value) same

pub returns-in-Greater-clause-place : goal.returns-in-Greater-clause-place
returns-in-Greater-clause-place c =
    searched_by _ c.hop_order.ensures.order c.args.hops.now c.args.hop.now c.binary_search.result c.requires c.binary_search.ensures.bound
    c.binary_search.ensures.position
