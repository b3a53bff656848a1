use Rattle.std.proofs.Common.{◌∙◌, ℕ, List, sym, ap, subst}
use Rattle.std.proofs.lemmas.Bool.{eqb-true}
use Rattle.area_graph.specs.Rising.{rising}
use Rattle.next_hops.specs.declared.hop.Hop.{Hop}
use Rattle.next_hops.specs.Hop.{hop_cmp}
use Rattle.next_hops.specs.steps.Shared.{AreJoins, IsJoin}
use Rattle.next_hops.proofs.Keeping.{AreJoins-insert, AreJoins-kept, AreWithin-kept, hops_in-kept}
use Rattle.next_hops.proofs.Sharing.{pointwise-same}
use Rattle.next_hops.proofs.joins.make.Goals as goal

pub returns-clause-join : goal.returns-clause-join
returns-clause-join g c =
    let old = c.args.lists.now.keys in
    let new = c.number_of.new.lists.keys in
    let numbers = c.args.numbers.now in
    let keeps = c.in_ok-number.ensures.keeps in
    record {
      parts = AreWithin-kept old new keeps numbers c.requires.within;
      within = c.in_ok-number.ensures.within;
      hops = c.in_ok-number.ensures.list ∙ c.as_slice.ensures.hops ∙ c.in_ok-hops.ensures
          ∙ ap (λ (hops : List Hop). rising hop_cmp hops) (sym (hops_in-kept old new keeps numbers c.requires.within));
    }

pub returns-clause-joined : goal.returns-clause-joined
returns-clause-joined g c =
    let old = c.args.lists.now.keys in
    let new = c.number_of.new.lists.keys in
    let joins = c.args.joins.now.entries in
    subst (λ es. AreJoins new es) (sym c.in_ok-insert.ensures.entries)
    (AreJoins-insert new _ (λ k j same. pointwise-same _ eqb-true k.items j.items same) joins c.in_ok-from_slice.field-0 c.in_ok-number.number
    (AreJoins-kept old new c.in_ok-number.ensures.keeps joins c.requires.joined)
    (subst (λ (ms : List ℕ). IsJoin new ms c.in_ok-number.number) (sym c.in_ok-from_slice.ensures.items) (returns-clause-join g c)))
