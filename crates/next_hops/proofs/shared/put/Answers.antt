use Rattle.std.proofs.Common.{◌∙◌, List, sym, subst}
use Rattle.next_hops.specs.declared.hop.Hop.{Hop}
use Rattle.next_hops.specs.Hop.{IsSortedHops}
use Rattle.next_hops.proofs.Sharing.{Keeps-inserted, list_in-at, pointwise-same}
use Rattle.next_hops.proofs.shared.put.Goals as goal

pub returns-clause-list : goal.returns-clause-list
returns-clause-list g c =
    let lists = c.insert_full.new.self.keys in
    let stored = c.in_ok-number.ensures.stored in
    list_in-at lists c.in_ok-number.number stored.0 stored.1
    ∙ sym (pointwise-same _ c.hop_equality.ensures c.in_ok-from_slice.field-0.items stored.0.items stored.2)
    ∙ c.in_ok-from_slice.ensures.items

pub returns-clause-keeps : goal.returns-clause-keeps
returns-clause-keeps g c =
    Keeps-inserted _ c.args.lists.now.keys c.insert_full.new.self.keys c.in_ok-from_slice.field-0
    (subst (λ (hops : List Hop). IsSortedHops hops) (sym c.in_ok-from_slice.ensures.items) c.requires) c.in_ok-number.ensures.keys
