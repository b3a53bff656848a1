-- How a run at a terminal ends.
use Rattle.std.proofs.Common.{◌≡◌, ◌∙◌, ◌↔◌, sym, ap, subst, refl, ℕ, ◌+◌, ◌<◌, ◌≤◌, Bool, true, false, cond, List, [], ◌∷◌, ◌++◌, append-nil, length, length-append, Option, None, Some, Result, Ok, Err, inl, inr, arith}
use Rattle.std.specs.Prelude.{◌⊎◌, ◌&&◌, ◌||◌, IfErr, IfOk, OnOk, nat_lt}
use Rattle.std.specs.List.{AllZip, list_any}
use Rattle.std.proofs.lemmas.Bool.{lt-ltb, ltb-true}
use Rattle.std.proofs.lemmas.Result.{IfOk-weaker}
use Rattle.std.specs.Io.KnownBytes.{Appends, Consumes, IsAtEnd}
use Rattle.host_io.specs.WholeText.{AppendsPrefix}
use Rattle.study_session.specs.Studies.{Study}
use Rattle.whole_study.specs.Begin.{AreAccepted, Begins}
use Rattle.whole_study.specs.Calls.{Ends, FitsInputs, HasLonger, IsRefusal, IsTooMuch, MayEndRun, WritesPrefix, most, of_first}
use Rattle.whole_study.specs.Given.{Given, NamedText}
use Rattle.whole_study.specs.Lines.{Line}
use Rattle.whole_study.specs.Run.{dump_of, has_passed, summary_in, summary_of}
use Rattle.whole_study.specs.Streams.{HasText, HaveBytes, has_study_failed}
use Rattle.whole_study.specs.Typed.{Awaits, Converses, Known, at_terminal, prompts_for, typed_lines, typed_study, with_typed}
use Rattle.whole_study.specs.steps.Endings.{MayEndWriting}
use Rattle.whole_study.specs.steps.Texts.{bytes_in}
use Rattle.whole_study.specs.steps.Typing.{Breaks, Completes, MayEndAsking, written_in}
use Rattle.whole_study.specs.declared.fault.RunFault.{RunFault}
use Rattle.whole_study.specs.declared.fault.RunFault.TheVariants.{Dump, Baseline, Names, Read, Write, TooLarge, OutOfMemory}
use Rattle.whole_study.specs.declared.inputs.RunFiles.{RunFiles}
use Rattle.whole_study.specs.declared.inputs.StudyFile.{StudyFile}
use Rattle.whole_study.specs.declared.running.Ended.{Ended}
use Rattle.whole_study.specs.declared.running.Manner.{Manner}
use Rattle.whole_study.specs.declared.summary.Summary.{Summary}
use Rattle.whole_study.proofs.Begun.{accepted_of}
use Rattle.whole_study.proofs.CarriedLines.{prefix_whole}
use Rattle.whole_study.proofs.RunEnds.{ends_by, on_success, prefix_after}

-- ---- what was typed, where all that will be is known

pub all_typed : (old new : Option (List ℕ)) (taken text : List ℕ) → Consumes old new taken → IsAtEnd new → old ≡ Some text → taken ≡ text
all_typed None new taken text typed at_end known = absurd cc
all_typed (Some xs) None taken text typed at_end known = absurd typed
all_typed (Some xs) (Some ys) taken text typed at_end known =
    let same : xs ≡ text = cc in sym (append-nil taken) ∙ ap (λ (l : List ℕ). taken ++ l) (sym at_end) ∙ sym typed ∙ same

pub typed_within : (old new : Option (List ℕ)) (taken text : List ℕ) → Consumes old new taken → old ≡ Some text → length taken ≤ length text
typed_within None new taken text typed known = absurd cc
typed_within (Some xs) None taken text typed known = absurd typed
typed_within (Some xs) (Some ys) taken text typed known =
    let same : xs ≡ text = cc in omega (arith, ap length same, ap length typed, length-append taken ys)

-- ---- the dialog is complete, and the summary is written

module _ {A : Type 0} (manner : Manner) (s : Study) (old : Known) (before : Summary) (after : Study) (new : Known) (counted : Summary)
    (done : Completes s old before after new counted) (none : before ≡ summary_of []) (end errors : Option (List ℕ)) (same : errors ≡ new.errors)
    (result : Result (Ended A) (RunFault A)) where
  pub typed_ended : OnOk result (Appends new.replies end (summary_in s.format counted))
      → IfOk result (λ ended. (ended.summary ≡ counted)
      × (bytes_in ended.dump ≡ cond (manner.wants_dump && has_passed counted) (Some (dump_of after)) None))
      → (text : List ℕ) → old.typed ≡ Some text → IfOk result (Ends (at_terminal manner) s (typed_lines text) old.replies end old.errors errors)
  typed_ended last left text known =
      subst (λ (t : List ℕ). IfOk result (Ends (at_terminal manner) s (typed_lines t) old.replies end old.errors errors))
      (all_typed old.typed new.typed done.text text done.typed done.at_end known)
      (ends_by (at_terminal manner) s (typed_lines done.text) (written_in old) before true after (written_in new) counted done.carried none end errors same
      result last left)

  pub typed_written : AppendsPrefix new.replies end (summary_in s.format counted)
      → WritesPrefix true s (typed_lines done.text) old.replies end old.errors errors
  typed_written last = prefix_after true s (typed_lines done.text) (written_in old) before true after (written_in new) counted done.carried none end errors last same

  pub typed_converses : AppendsPrefix new.replies end (summary_in s.format counted)
      → Converses s done.text old (record { typed = new.typed; prompts = new.prompts; replies = end; errors = errors })
  typed_converses last = record {
    typed = done.typed;
    prompts = prefix_whole old.prompts new.prompts (prompts_for (typed_lines done.text)) done.prompts;
    written = typed_written last;
  }

  pub typed_prompts : (text : List ℕ) → old.typed ≡ Some text → OnOk result (Appends old.prompts new.prompts (prompts_for (typed_lines text)))
  typed_prompts text known =
      on_success result
      (subst (λ (t : List ℕ). Appends old.prompts new.prompts (prompts_for (typed_lines t)))
      (all_typed old.typed new.typed done.text text done.typed done.at_end known) done.prompts)

  pub typed_fits : (text : List ℕ) → old.typed ≡ Some text → OnOk result (length text ≤ most)
  typed_fits text known =
      on_success result
      (subst (λ (t : List ℕ). length t ≤ most) (all_typed old.typed new.typed done.text text done.typed done.at_end known) done.within)

-- ---- the dialog breaks off

pub broken_converses : {A : Type 0} (s : Study) (old new : Known) (fault : RunFault A) (broken : Breaks s old new fault) → Converses s broken.text old new
broken_converses s old new fault broken = record {
  typed = broken.typed;
  prompts = broken.prompts;
  written = record {
    given = broken.written.given;
    replies = of_first broken.written.gives broken.written.replies;
    errors = broken.written.errors;
  };
}

pub broken_long : {A : Type 0} (s : Study) (old new : Known) (fault : RunFault A) (broken : Breaks s old new fault) (text : List ℕ)
    → old.typed ≡ Some text → fault ≡ TooLarge → most < length text
broken_long s old new fault broken text known long =
    omega (arith, broken.long long, typed_within old.typed new.typed broken.text text broken.typed known)

-- ---- faults

pub asking_from_writing : {A : Type 0} (fault : RunFault A) → MayEndWriting fault → MayEndAsking fault
asking_from_writing (Dump fault) may = may
asking_from_writing (Baseline fault) may = may
asking_from_writing (Names refusal) may = may
asking_from_writing Read may = tt
asking_from_writing Write may = tt
asking_from_writing TooLarge may = tt
asking_from_writing OutOfMemory may = tt

abbrev failed : {A : Type 0} (T : Type 0) → RunFault A → Result T (RunFault A)
failed T fault = Err fault

-- what holds of a fault holds where a call ends with it
pub on_fault : {A T : Type 0} (result : Result T (RunFault A)) (fault : RunFault A) (K : RunFault A → Type 0) → result ≡ failed T fault → K fault
    → IfErr result K
on_fault result fault K same holds = subst (λ (r : Result _ (RunFault _)). IfErr r K) (sym same) holds

pub fault_of : {A : Type 0} (T : Type 0) (a b : RunFault A) → failed T a ≡ failed T b → a ≡ b
fault_of T a b same = cc

pub failed_same : {A : Type 0} (T : Type 0) (a b : RunFault A) → a ≡ b → failed T a ≡ failed T b
failed_same T a b same = ap (failed T) same

pub no_read : {A T : Type 0} (result : Result T (RunFault A)) → IfErr result MayEndWriting → result ≡ failed T Read → ⊥
no_read result may is = subst (λ (r : Result _ (RunFault _)). IfErr r MayEndWriting) is may

pub not_long : {A T : Type 0} (result : Result T (RunFault A)) → IfErr result MayEndWriting → result ≡ failed T TooLarge → ⊥
not_long result may is = subst (λ (r : Result _ (RunFault _)). IfErr r MayEndWriting) is may

not_refused : {A : Type 0} (fault : RunFault A) → MayEndAsking fault → IsRefusal fault → ⊥
not_refused (Dump fault) may refused = may
not_refused (Baseline fault) may refused = may
not_refused (Names refusal) may refused = may
not_refused Read may refused = refused
not_refused Write may refused = refused
not_refused TooLarge may refused = refused
not_refused OutOfMemory may refused = refused

-- no file is refused once lines are asked for
pub untouched_typed : {A T : Type 0} (result : Result T (RunFault A)) (K : Type 0) → IfErr result MayEndAsking
    → IfErr result (λ fault. IsRefusal fault → K)
untouched_typed (Ok value) K may = tt
untouched_typed (Err fault) K may = λ refused. absurd (not_refused fault may refused)

-- ---- what is given beside the lines that are typed

no_studies : {S : Type 0} (remaining : S → Option (List ℕ)) (studies : List NamedText) → AllZip (HasText remaining) [] studies → studies ≡ []
no_studies remaining [] same = refl
no_studies remaining (study ∷ studies) same = absurd same

-- readers have the bytes that are given, whatever the readers of no studies are
pub have_none : {R S T : Type 0} (of_file : R → Option (List ℕ)) (of_study : S → Option (List ℕ)) (of_other : T → Option (List ℕ)) (files : RunFiles R)
    (given : Given) → HaveBytes of_file of_study files [] given → HaveBytes of_file of_other files [] given
have_none of_file of_study of_other files given have = record {
  dump = have.dump;
  baseline = have.baseline;
  names = have.names;
  studies = subst (λ (xs : List NamedText). AllZip (HasText of_other) [] xs) (sym (no_studies of_study given.studies have.studies)) tt;
}

-- no study is given
pub none_given : {R S : Type 0} (of_file : R → Option (List ℕ)) (of_study : S → Option (List ℕ)) (files : RunFiles R) (given : Given)
    → HaveBytes of_file of_study files [] given → given.studies ≡ []
none_given of_file of_study files given have = no_studies of_study given.studies have.studies

none_longer : (studies : List NamedText) → studies ≡ [] → HasLonger studies → ⊥
none_longer [] none longer = absurd cc
none_longer (study ∷ studies) none longer = absurd cc

too_much_typed : (given : Given) (text : List ℕ) → given.studies ≡ [] → IsTooMuch given → IsTooMuch (with_typed given text)
too_much_typed given text none (inl many) = absurd (omega (arith, many, ap length none))
too_much_typed given text none (inr (inl names)) = inr (inl names)
too_much_typed given text none (inr (inr longer)) = absurd (none_longer given.studies none longer)

accepted_typed : (given : Given) (text : List ℕ) → AreAccepted given → AreAccepted (with_typed given text)
accepted_typed given text accepted = record { dump = accepted.dump; baseline = accepted.baseline; names = accepted.names }

pub end_typed : {A : Type 0} (given : Given) (text : List ℕ) (fault : RunFault A) → given.studies ≡ [] → MayEndRun given fault
    → MayEndRun (with_typed given text) fault
end_typed given text (Dump fault) none end = end
end_typed given text (Baseline fault) none end = end
end_typed given text (Names refusal) none end = end
end_typed given text Read none end = tt
end_typed given text Write none end = accepted_typed given text end
end_typed given text TooLarge none end = too_much_typed given text none end
end_typed given text OutOfMemory none end = tt

-- ---- the run, from what was read of its files

or_none : (b : Bool) → (b || false) ≡ b
or_none true = refl
or_none false = refl

few_typed : (given : Given) (text : List ℕ) → (IsTooMuch given → ⊥) → length text ≤ most → IsTooMuch (with_typed given text) → ⊥
few_typed given text few short (inl many) = omega (arith, many)
few_typed given text few short (inr (inl names)) = few (inr (inl names))
few_typed given text few short (inr (inr longer)) =
    omega (arith, short, ltb-true most (length text) (sym (or_none (nat_lt most (length text))) ∙ longer))

longer_typed : (text : List ℕ) → most < length text → HasLonger (typed_study text ∷ [])
longer_typed text long = or_none (nat_lt most (length text)) ∙ lt-ltb most (length text) long

fault_typed : {A : Type 0} (given : Given) (text : List ℕ) (fault : RunFault A) → AreAccepted given → (fault ≡ TooLarge → most < length text)
    → MayEndAsking fault → MayEndRun (with_typed given text) fault
fault_typed given text (Dump fault) accepted long may = absurd may
fault_typed given text (Baseline fault) accepted long may = absurd may
fault_typed given text (Names refusal) accepted long may = absurd may
fault_typed given text Read accepted long may = tt
fault_typed given text Write accepted long may = accepted_typed given text accepted
fault_typed given text TooLarge accepted long may = inr (inr (longer_typed text (long refl)))
fault_typed given text OutOfMemory accepted long may = tt

fits_by : {A T : Type 0} (given : Given) (text : List ℕ) (result : Result T (RunFault A)) → AreAccepted given → (IsTooMuch given → ⊥)
    → OnOk result (length text ≤ most) → (result ≡ failed T TooLarge → most < length text) → IfErr result MayEndAsking
    → FitsInputs (with_typed given text) result
fits_by given text (Ok value) accepted few short long may = record {
  accepted = accepted_typed given text accepted;
  within = few_typed given text few short;
  faults = tt;
}
fits_by given text (Err fault) accepted few short long may = record {
  accepted = tt;
  within = tt;
  faults = fault_typed given text fault accepted (λ is. long (ap (failed _) is)) may;
}

module _ (how : Manner) (read given : Given) (s : Study) (same : read ≡ given) (begins : Begins how read s) where
  pub begins_typed : Begins how given s
  begins_typed = subst (λ (g : Given). Begins how g s) same begins

  pub ended_typed : {A : Type 0} (manner : Manner) (text : List ℕ) (r0 r1 e0 e1 : Option (List ℕ)) (result : Result (Ended A) (RunFault A))
      → IfOk result (Ends (at_terminal manner) s (typed_lines text) r0 r1 e0 e1)
      → IfOk result (λ ended. (t : Study) × (Begins how given t × Ends (at_terminal manner) t (typed_lines text) r0 r1 e0 e1 ended))
  ended_typed manner text r0 r1 e0 e1 result ends = IfOk-weaker result _ _ (λ ended end. (s, (begins_typed, end))) ends

  pub inputs_typed : {A T : Type 0} (text : List ℕ) (result : Result T (RunFault A)) → (IsTooMuch read → ⊥) → OnOk result (length text ≤ most)
      → (result ≡ failed T TooLarge → most < length text) → IfErr result MayEndAsking → FitsInputs (with_typed given text) result
  inputs_typed text result few short long may =
      fits_by given text result (accepted_of how given s begins_typed) (λ much. few (subst IsTooMuch (sym same) much)) short long may

-- ---- streams that have failed

-- no study has failed, where there is none
pub none_failed : {S : Type 0} (studies : List (StudyFile S)) → length studies ≡ 0 → has_study_failed studies ≡ false
none_failed [] none = refl
none_failed (study ∷ studies) none = absurd (omega (arith, none))

-- one of two has failed, where the first has not
pub only_second : (P : Type 0) (a b : Bool) → a ≡ false → P ↔ (b ≡ true) → P ↔ ((a || b) ≡ true)
only_second P true b not second = absurd cc
only_second P false b not second = second

pub unfailed : (b : Bool) → b ≡ false → b ≡ true → ⊥
unfailed b not is = let e : false ≡ true = sym not ∙ is in cc
