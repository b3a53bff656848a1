use Rattle.std.proofs.lemmas.List.Sorted.{IsPermutation-sym}
use Rattle.forgotten_instances.specs.Forgotten.{remembered}
use Rattle.lsa_instances.proofs.SameLemmas.{same_in_order}
use Rattle.lsdb_merge.proofs.AnyOrder.{same_joined}
use Rattle.lsdb_merge.proofs.laws.joined_in_any_order.Goals as goal

pub returns-clause-order : goal.returns-clause-order
returns-clause-order g c =
    λ flushed reported other areas others one two h k.
    let law = c.newest_in_any_order.ensures in
    let same = c.remembered_in_any_order.ensures other reported (same_in_order other reported (IsPermutation-sym reported other h)) in
    let newest = law.again flushed (remembered other) (remembered reported) two.newest same two.are_newest in
    same_joined flushed reported other areas others one two (same_in_order areas others k) (law.only flushed (remembered reported) one.newest two.newest one.are_newest newest)

pub returns-clause-again : goal.returns-clause-again
returns-clause-again g c =
    λ flushed reported other areas others one two h k.
    let law = c.newest_in_any_order.ensures in
    let same = c.remembered_in_any_order.ensures other reported (h.1, h.0) in
    let newest = law.again flushed (remembered other) (remembered reported) two.newest same two.are_newest in
    same_joined flushed reported other areas others one two k (law.only flushed (remembered reported) one.newest two.newest one.are_newest newest)
