use Rattle.std.proofs.Common.{ℕ, ◌≡◌, false, true, List, get_or, sym, ◌∙◌, arith, rules}
use Rattle.std.proofs.lemmas.List.{take_more_same}
use Rattle.std.proofs.lemmas.Option.{get_or_from_slice_get}
use Rattle.std.proofs.lemmas.Slice.Eq.{bytes_eq-Decides}
use Rattle.std.specs.Str.{bytes_eq}
use Rattle.lsdb.specs.Lists.{lsas_of}
use Rattle.lsdb.specs.Slots.{lists_of}
use Rattle.test_databases.proofs.sections.has_same.Goals as goal

pub loop-number-preserved : goal.loop-number-preserved
loop-number-preserved g c =
    let i = c.loop-number.number in
    let these : List (List ℕ) = lsas_of c.args.section (lists_of c.args.database.now) in
    let others : List (List ℕ) = lsas_of c.args.section (lists_of c.args.other.now) in
    let none : List ℕ = c.lsa.result.now in
    let tested : bytes_eq c.bytes.result.now c.bytes-in-loop-number.result.now ≡ true = search rules in
    let same : c.bytes.result.now ≡ c.bytes-in-loop-number.result.now = (bytes_eq-Decides c.bytes.result.now c.bytes-in-loop-number.result.now).0 tested in
    take_more_same these others i none (omega arith) (omega arith) c.loop-number.invariant
    (get_or_from_slice_get these i c.lsa.result.now none c.lsa.ensures
    ∙ sym c.bytes.ensures.bytes ∙ same ∙ c.bytes-in-loop-number.ensures.bytes
    ∙ sym (get_or_from_slice_get others i c.lsa-in-loop-number.result.now none c.lsa-in-loop-number.ensures))
