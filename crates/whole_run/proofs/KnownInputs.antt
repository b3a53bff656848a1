-- What a run is answered, from what was read of its inputs.
use Rattle.std.proofs.Common.{◌≡◌, ◌∙◌, true, true≢false, ap, sym, subst, refl, ℕ, List, [], Option, None, Some, Ok, Err, inl, inr}
use Rattle.std.specs.Prelude.{IfSome, IfErr, IsErr, IsOk, OnOk, Result, is_some}
use Rattle.std.specs.Io.KnownBytes.{Appends, Keeps}
use Rattle.std.proofs.KnownBytes.{Appends-nil, Appends-kept}
use Rattle.std.proofs.lemmas.Result.{on_ok_weaker}
use Rattle.lsdb.specs.declared.fault.DumpFault.{DumpFault}
use Rattle.lsdb.specs.declared.fault.DumpFaultKind.TheVariants as kind
use Rattle.lsdb.specs.Text.{text}
use Rattle.lsdb.specs.Loading.{IsFirstFault}
use Rattle.saved_sessions.specs.Opening.{opened}
use Rattle.saved_sessions.specs.Saved.{saved_text}
use Rattle.edit_history.specs.Session.{Session, state}
use Rattle.branches.specs.Branches.{Sessions}
use Rattle.branches.specs.Replies.{Answer}
use Rattle.whole_run.specs.Run.{answers, answers_from, sessions_after, dump_after, session_after, lines_of, begun, run_answers, final_dump, final_session}
use Rattle.host_io.specs.WholeText.{IsAll, IsLonger, AppendsPrefix}
use Rattle.host_io.specs.declared.watch.Watched.{Watched}
use Rattle.host_io.specs.Watched.{inner_of}
use Rattle.whole_run.specs.Streams.{contents_of}
use Rattle.whole_run.specs.Inputs.{IsAccepted, longest_script}
use Rattle.whole_run.specs.WholeRun.{IfBoth, MayEndRun}
use Rattle.whole_run.specs.Calls.{Writes}
use Rattle.whole_run.specs.declared.fault.RunFault.{RunFault}
use Rattle.whole_run.specs.declared.fault.RunFault.TheVariants.{Dump, Read, Write, TooLarge, OutOfMemory}
use Rattle.whole_run.specs.declared.leaving.Left.{Left}
use Rattle.whole_run.specs.declared.leaving.Wanted.{Wanted}
use Rattle.whole_run.specs.steps.Leaving.{HasTexts}
use Rattle.whole_run.specs.steps.Reading.{IsRunEnd}

answers_are : (bytes script : List ℕ) (s : Sessions) → begun (opened bytes) ≡ Ok s → run_answers bytes script ≡ answers s (lines_of script)
unfolding run_answers
answers_are bytes script s e = ap (λ r. answers_from r (lines_of script)) e

dump_is : (bytes script : List ℕ) (s : Sessions) → begun (opened bytes) ≡ Ok s → final_dump bytes script ≡ text (state (sessions_after s (lines_of script) 0))
unfolding final_dump
dump_is bytes script s e = ap (λ r. dump_after r (lines_of script)) e

session_is : (bytes script : List ℕ) (s : Sessions) → begun (opened bytes) ≡ Ok s → final_session bytes script ≡ saved_text (sessions_after s (lines_of script) 0)
unfolding final_session
session_is bytes script s e = ap (λ r. session_after r (lines_of script)) e

-- ---- from what the branches of the opened session answer to what the run answers

-- what holds of their answers holds of the run's
pub of_answers : (P : List Answer → Type 0) (dump script : Option (List ℕ)) (s : Sessions)
    → IfSome dump (λ bytes. begun (opened bytes) ≡ Ok s) → IfSome script (λ known. P (answers s (lines_of known)))
    → IfBoth dump script (λ bytes known. P (run_answers bytes known))
of_answers P None script s loads holds = tt
of_answers P (Some bytes) None s loads holds = tt
of_answers P (Some bytes) (Some known) s loads holds = subst P (sym (answers_are bytes known s loads)) holds

-- the dump and the session that the script leaves
pub of_texts : {A : Type 0} (wanted : Wanted) (left : Left A) (dump script : Option (List ℕ)) (s : Sessions)
    → IfSome dump (λ bytes. begun (opened bytes) ≡ Ok s)
    → IfSome script (λ known. HasTexts wanted left (text (state (sessions_after s (lines_of known) 0))) (saved_text (sessions_after s (lines_of known) 0)))
    → IfBoth dump script (λ bytes known. HasTexts wanted left (final_dump bytes known) (final_session bytes known))
of_texts wanted left None script s loads ends = tt
of_texts wanted left (Some bytes) None s loads ends = tt
of_texts wanted left (Some bytes) (Some known) s loads ends = record {
  dump = λ given. ends.dump given ∙ sym (dump_is bytes known s loads);
  session = λ given. ends.session given ∙ sym (session_is bytes known s loads);
}

-- each of them, where it is wanted
module _ {A : Type 0} (wanted : Wanted) (left : Left A) where
  pub wanted_dump : (dump script : Option (List ℕ)) → IfBoth dump script (λ bytes known. HasTexts wanted left (final_dump bytes known) (final_session bytes known))
      → wanted.dump ≡ true → IfBoth dump script (λ bytes known. left.dump.items ≡ final_dump bytes known)
  wanted_dump None script texts given = tt
  wanted_dump (Some bytes) None texts given = tt
  wanted_dump (Some bytes) (Some known) texts given = texts.dump given

  pub wanted_session : (dump script : Option (List ℕ))
      → IfBoth dump script (λ bytes known. HasTexts wanted left (final_dump bytes known) (final_session bytes known))
      → wanted.session ≡ true → IfBoth dump script (λ bytes known. left.session.items ≡ final_session bytes known)
  wanted_session None script texts given = tt
  wanted_session (Some bytes) None texts given = tt
  wanted_session (Some bytes) (Some known) texts given = texts.session given

-- how the run ends, where carrying out the script ends it
pub of_end : (dump script : Option (List ℕ)) → IfSome dump IsAccepted → (fault : RunFault) → IsRunEnd (IsLonger script longest_script) fault
    → MayEndRun dump script fault
of_end dump script accepted (Dump fault) end = absurd end
of_end dump script accepted Read end = tt
of_end dump script accepted Write end = accepted
of_end dump script accepted TooLarge end = (accepted, end)
of_end dump script accepted OutOfMemory end = tt

-- an accepted dump is not refused
pub not_refused : (K : Type 0) (dump : Option (List ℕ)) → IfSome dump IsAccepted → IfSome dump (λ bytes. IsErr (opened bytes) → K)
not_refused K None accepted = tt
not_refused K (Some bytes) accepted = by (opened bytes) accepted
  where
    by : (r : Result Session DumpFault) → IsOk r → IsErr r → K
    by (Ok s) ok err = absurd (true≢false (sym err))
    by (Err fault) ok err = absurd (true≢false (sym ok))

-- what holds anyhow holds after a success
pub on_success : {T E P : Type 0} (r : Result T E) → P → OnOk r P
on_success (Ok value) holds = holds
on_success (Err fault) holds = tt

-- what is known of a writer that is given, and of none without one
if_given : {D : Type 0} (P : Option (List ℕ) → List ℕ → Type 0) → ((items : List ℕ) → P None items) → (contents : D → Option (List ℕ))
    (writer : Option (Watched D)) (dump script : Option (List ℕ)) (items : List ℕ) (text : List ℕ → List ℕ → List ℕ)
    → (is_some writer ≡ true → IfBoth dump script (λ bytes known. items ≡ text bytes known)) → P (contents_of contents writer) items
    → IfBoth dump script (λ bytes known. P (contents_of contents writer) (text bytes known))
if_given P none contents writer None script items text left holds = tt
if_given P none contents writer (Some bytes) None items text left holds = tt
if_given P none contents None (Some bytes) (Some known) items text left holds = none (text bytes known)
if_given P none contents (Some w) (Some bytes) (Some known) items text left holds = subst (P (contents (inner_of w))) (left refl) holds

-- a text is written where a writer is given
pub writes_given : {D T : Type 0} (contents : D → Option (List ℕ)) (writer : Option (Watched D)) (new dump script : Option (List ℕ)) (items : List ℕ)
    (text : List ℕ → List ℕ → List ℕ) (result : Result T RunFault)
    → (is_some writer ≡ true → IfBoth dump script (λ bytes known. items ≡ text bytes known)) → OnOk result (Appends (contents_of contents writer) new items)
    → AppendsPrefix (contents_of contents writer) new items → Writes text dump script result (contents_of contents writer) new
writes_given contents writer new dump script items text result left whole part = record {
  whole = on_ok_weaker result (if_given (λ old all. Appends old new all) (λ _. tt) contents writer dump script items text left) whole;
  prefix = if_given (λ old all. AppendsPrefix old new all) (λ _. ([], (refl, tt))) contents writer dump script items text left part;
}

-- a prefix of that dump is written
pub if_dump_prefix : (old new dump script : Option (List ℕ)) (items whole : List ℕ) → items ≡ whole
    → IfBoth dump script (λ bytes known. whole ≡ final_dump bytes known) → AppendsPrefix old new items
    → IfBoth dump script (λ bytes known. AppendsPrefix old new (final_dump bytes known))
if_dump_prefix old new None script items whole same is part = tt
if_dump_prefix old new (Some bytes) None items whole same is part = tt
if_dump_prefix old new (Some bytes) (Some known) items whole same is part = subst (AppendsPrefix old new) (same ∙ is) part

-- nothing is written
pub nothing_written : (old : Option (List ℕ)) (whole : List ℕ) → AppendsPrefix old old whole
nothing_written old whole = ([], (refl, Appends-nil old))

-- a fault that is not want of memory is the first fault of the bytes
pub first_fault : (known : Option (List ℕ)) (fault : DumpFault) → (fault.kind ≡ kind.OutOfMemory → ⊥)
    → IfSome known (λ bytes. IsFirstFault fault (opened bytes)) → IfSome known (λ bytes. opened bytes ≡ Err fault)
first_fault None fault other first = tt
first_fault (Some bytes) fault other (inl memory) = absurd (other (ap (λ (f : DumpFault). f.kind) memory))
first_fault (Some bytes) fault other (inr first) = first

-- what was loaded, where the bytes are known
pub known_first : (known : Option (List ℕ)) (read : List ℕ) (fault : DumpFault) → IsAll known read
    → IsFirstFault fault (opened read) → IfSome known (λ bytes. IsFirstFault fault (opened bytes))
known_first None read fault all first = tt
known_first (Some bytes) read fault all first = subst (λ b. IsFirstFault fault (opened b)) all first

-- a prefix that was written, and then nothing more
pub prefix_kept : (a b c : Option (List ℕ)) (whole : List ℕ) → AppendsPrefix a b whole → Keeps b c → AppendsPrefix a c whole
prefix_kept a b c whole (part, (starts, taken)) kept = (part, (starts, Appends-kept a b c part taken kept))

pub if_prefix_kept : (a b c dump script : Option (List ℕ)) (whole : List ℕ → List ℕ → List ℕ)
    → IfBoth dump script (λ bytes known. AppendsPrefix a b (whole bytes known)) → Keeps b c
    → IfBoth dump script (λ bytes known. AppendsPrefix a c (whole bytes known))
if_prefix_kept a b c None script whole part kept = tt
if_prefix_kept a b c (Some bytes) None whole part kept = tt
if_prefix_kept a b c (Some bytes) (Some known) whole part kept = prefix_kept a b c (whole bytes known) part kept

-- a text that was written, and then nothing more
pub if_written_kept : (a b c dump script : Option (List ℕ)) (whole : List ℕ → List ℕ → List ℕ)
    → IfBoth dump script (λ bytes known. Appends a b (whole bytes known)) → Keeps b c
    → IfBoth dump script (λ bytes known. Appends a c (whole bytes known))
if_written_kept a b c None script whole text kept = tt
if_written_kept a b c (Some bytes) None whole text kept = tt
if_written_kept a b c (Some bytes) (Some known) whole text kept = Appends-kept a b c (whole bytes known) text kept

-- what holds anyhow holds after each error of some kind
pub after_errors : {T F K : Type 0} (r : Result T F) (Q : F → Type 0) → K → IfErr r (λ fault. Q fault → K)
after_errors (Ok _) Q kept = tt
after_errors (Err fault) Q kept = λ _. kept
