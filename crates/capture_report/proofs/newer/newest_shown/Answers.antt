use Rattle.std.proofs.Common.{◌≡◌, ℕ, ◌+◌, ◌<◌, ◌∷◌, [], ◌++◌, List, length, map, take, get_or, sym, ap, subst, ◌∙◌}
use Rattle.std.proofs.lemmas.List.{flat_map_more, take_more}
use Rattle.lsa_instances.specs.declared.observation.Observation.{Observation}
use Rattle.network_files.specs.declared.parsed_file.ParsedFile.{ParsedFile}
use Rattle.capture_report.specs.Newer.{of_observation, shown_of}
use Rattle.capture_report.specs.steps.Newest.{AreNewest}
use Rattle.capture_report.proofs.newer.newest_shown.Goals as goal

file_after : {A : Type 0} (all : List (ParsedFile A)) (i : ℕ) (x : ParsedFile A) (observations : List (Observation A)) → i < length all → x ≡ get_or all i x
    → observations ≡ x.observations.items → shown_of (take i all) ++ map of_observation observations ≡ shown_of (take (i + 1) all)
file_after all i x observations within is e =
    ap (λ s. shown_of (take i all) ++ map of_observation s) e
    ∙ flat_map_more (λ file. map of_observation file.observations.items) [] (take i all) x
    ∙ ap (λ y. shown_of (take i all ++ y ∷ [])) is
    ∙ ap shown_of (sym (take_more all i x within))

pub loop-file-preserved : goal.loop-file-preserved
loop-file-preserved g c =
    let all = c.args.files.now in
    let i = c.loop-file.file-index in
    subst (λ l. AreNewest l c.put_observations.new.newest)
    (file_after all i c.file-item.result c.deref.result.now c.loop-file-test.true c.file-item.is c.deref.ensures.value)
    (c.in_ok-put_observations.ensures (shown_of (take i all)) c.loop-file.invariant)
