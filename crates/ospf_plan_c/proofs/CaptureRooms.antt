-- The texts of a run over files, and the rooms that a host has for them.
use Rattle.std.proofs.Common.{◌≡◌, ◌∙◌, ap, subst, ℕ, ◌<◌, List, ◌++◌, length, ◌⊎◌}
use Rattle.std.specs.String.{string_bytes}
use Rattle.capture_slices.specs.Captured.{AreTextsOf, Given}
use Rattle.capture_slices.specs.declared.capturing.CaptureTexts.{CaptureTexts}
use Rattle.lsa_instances.specs.declared.keeping.FlushedLsas.{FlushedLsas}
use Rattle.plan_slices.specs.Room.{IsCopied}
use Rattle.ospf_plan_c.specs.Captures.{AreInRooms, LacksRoom, verdict_of}
use Rattle.ospf_plan_c.specs.Status.{no_room}
use Rattle.ospf_plan_c.specs.declared.capturing.CaptureReport.{CaptureReport}

abbrev pub report_with : List ℕ → ℕ → List ℕ → List ℕ → CaptureReport
report_with text contents warnings dump = record {
  output = length text;
  contents = contents;
  warnings = length warnings;
  dump = length dump;
}

module _ {A : Type 0} (flushed : FlushedLsas) (given : Given) (texts : CaptureTexts A) (are : AreTextsOf flushed given texts)
    (report : CaptureReport) (is : report ≡ report_with (string_bytes texts.output) texts.contents (string_bytes texts.warnings) texts.dump.items)
    (lines warned dumped : List ℕ) (first : lines ≡ string_bytes texts.output) (second : warned ≡ string_bytes texts.warnings)
    (third : dumped ≡ texts.dump.items) (output warnings dump : List ℕ) where
  whole : lines ≡ are.lines ++ are.notices
  whole = first ∙ are.output_is

  report_is : report ≡ report_with (are.lines ++ are.notices) (length are.lines) (string_bytes texts.warnings) texts.dump.items
  report_is =
      is
      ∙ ap (λ (text : List ℕ). report_with text texts.contents (string_bytes texts.warnings) texts.dump.items) are.output_is
      ∙ ap (λ (n : ℕ). report_with (are.lines ++ are.notices) n (string_bytes texts.warnings) texts.dump.items) are.contents_are

  -- texts that are copied are in their rooms
  pub texts_in_rooms : (new_output new_warnings new_dump : List ℕ) (status : ℕ) → IsCopied lines output new_output
      → IsCopied warned warnings new_warnings → IsCopied dumped dump new_dump → status ≡ verdict_of (string_bytes texts.warnings)
      → AreInRooms A flushed given output new_output warnings new_warnings dump new_dump report status
  texts_in_rooms new_output new_warnings new_dump status one two three verdict = record {
    lines_text = are.lines;
    notices_text = are.notices;
    warnings_text = string_bytes texts.warnings;
    dump_text = texts.dump.items;
    captured = are.captured;
    in_output = subst (λ (text : List ℕ). IsCopied text output new_output) whole one;
    in_warnings = subst (λ (text : List ℕ). IsCopied text warnings new_warnings) second two;
    in_dump = subst (λ (text : List ℕ). IsCopied text dump new_dump) third three;
    report_is = report_is;
    verdict = verdict;
  }

  -- a text that is not copied lacks room
  pub texts_lack_room : (status : ℕ) → (length output < length lines) ⊎ ((length warnings < length warned) ⊎ (length dump < length dumped))
      → status ≡ no_room → LacksRoom A flushed given output warnings dump report status
  texts_lack_room status short verdict = record {
    lines_text = are.lines;
    notices_text = are.notices;
    warnings_text = string_bytes texts.warnings;
    dump_text = texts.dump.items;
    captured = are.captured;
    too_small =
        subst
        (λ (text : List ℕ). (length output < length (are.lines ++ are.notices))
        ⊎ ((length warnings < length (string_bytes texts.warnings)) ⊎ (length dump < length text))) third
        (subst
        (λ (text : List ℕ). (length output < length (are.lines ++ are.notices)) ⊎ ((length warnings < length text) ⊎ (length dump < length dumped)))
        second
        (subst (λ (text : List ℕ). (length output < length text) ⊎ ((length warnings < length warned) ⊎ (length dump < length dumped))) whole short));
    report_is = report_is;
    verdict = verdict;
  }
