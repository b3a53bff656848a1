use Rattle.std.proofs.Common.{ℕ, List, sym, ap, ◌∙◌}
use Rattle.std.specs.List.{find}
use Rattle.std.specs.Option.{option_map}
use Rattle.lsdb.specs.declared.section.Section.{Section}
use Rattle.lsdb.specs.Lists.{has_key, lsas_of}
use Rattle.lsdb.specs.Slots.{lists_of}
use Rattle.area_graph.proofs.MemberLemmas.{Some-same}
use Rattle.area_candidates.specs.InOrder.{FoundValue}
use Rattle.area_candidates.proofs.Keys.{found_kind}
use Rattle.area_candidates.proofs.ordered_lsas.found_at.Goals as goal

pub returns-clause-found : goal.returns-clause-found
returns-clause-found g c =
    let db = lists_of c.args.database.now in
    let lsa = c.in_ok-lsa.lsa.now in
    let make : List ℕ → FoundValue = λ l. record { area = c.args.area; lsa = l } in
    sym (ap (λ (s : Section). option_map make (find (has_key c.args.key) (lsas_of s db))) (sym c.section_of.ensures)
    ∙ ap (option_map make) (Some-same (sym c.in_ok-slot.ensures.held ∙ c.in_ok-lsa.ensures)))

pub returns-clause-kind : goal.returns-clause-kind
returns-clause-kind g c =
    found_kind c.args.key (lsas_of c.section_of.result (lists_of c.args.database.now)) c.in_ok-lsa.lsa.now
    (Some-same (sym c.in_ok-slot.ensures.held ∙ c.in_ok-lsa.ensures))
