-- The records of a planner begin with those of the edits that are done.
use Rattle.std.proofs.Common.{◌≡◌, ◌≤◌, List, ◌++◌, length, take, sym, ap, ◌∙◌, arith, length-append}
use Rattle.std.proofs.lemmas.List.{length-map, take-map}
use Rattle.std.proofs.Math.Seq.{take-append_seam}
use Rattle.edit_script.specs.declared.edit.Edit.{Edit}
use Rattle.edit_history.specs.Exchange.{RecordData}
use Rattle.edit_history.specs.Session.{edits_of}

module _ (records : List RecordData) (done undone : List Edit) (are : edits_of records ≡ done ++ undone) where
  -- there is a record for each
  pub enough : length done ≤ length records
  enough = omega (arith, length-map records (λ (r : RecordData). r.edit), ap length are, length-append done undone)

  pub first_done : edits_of (take (length done) records) ≡ done
  first_done =
      sym (take-map (λ (r : RecordData). r.edit) (length done) records) ∙ ap (take (length done)) are ∙ take-append_seam done undone
