use Rattle.std.proofs.Common.{◌∙◌, sym, ap}
use Rattle.lsa_instances.proofs.SameLemmas.{same_in_order}
use Rattle.lsdb.specs.Text.{text}
use Rattle.network_files.proofs.Pieces.{same_pieces}
use Rattle.network_files.proofs.laws.files_in_any_order.Goals as goal

pub returns-clause-again : goal.returns-clause-again
returns-clause-again g c =
    λ flushed files others one two a b same.
    let observations = same_pieces (λ file. file.observations.items) files others same in
    let areas = same_pieces (λ file. file.areas.items) files others same in
    let law = c.joined_in_any_order.ensures in
    a.spelled ∙ ap text (law.again flushed _ _ _ _ a.joining b.joining observations areas) ∙ sym b.spelled

pub returns-clause-order : goal.returns-clause-order
returns-clause-order g c =
    λ flushed files others one two a b h.
    returns-clause-again g c flushed files others one two a b (same_in_order files others h)
