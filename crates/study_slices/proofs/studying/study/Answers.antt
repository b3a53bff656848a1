use Rattle.std.proofs.Common.{ℕ, List, [], Some, Bor, refl, ap, ◌∙◌}
use Rattle.std.specs.Prelude.{option_map, unwrap_or}
use Rattle.std.proofs.lemmas.Result.{err_from_is_err_and}
use Rattle.whole_study.specs.Run.{errors_of, whole_replies}
use Rattle.study_slices.specs.Studied.{given_of}
use Rattle.study_slices.proofs.Known.{same_bytes, still_given, text_given, written}
use Rattle.study_slices.proofs.studying.study.Goals as goal

pub returns-in_err-ended-clause-fault : goal.returns-in_err-ended-clause-fault
returns-in_err-ended-clause-fault g c =
    let gave = err_from_is_err_and c.from_residual.result c.from_residual.ensures.1 in
    let given = given_of c.args.dump.now (option_map (λ (b : Bor (List ℕ)). b.now) c.args.baseline) c.args.names.now c.args.study.now in
    rw (gave.1, gave.2) ((c.in_err-ended.ensures.inputs given
    (record {
      dump = ap (λ (b : Bor (List ℕ)). Some b.now) c.new.ensures.inner;
      baseline = record {
        given = c.reader_of.ensures.given ∙ still_given (λ (b : Bor (List ℕ)). b.now) c.args.baseline;
        same = same_bytes _ (λ b. refl) c.reader_of.result c.args.baseline c.reader_of.ensures.given c.reader_of.ensures.bytes;
      };
      names = record { given = refl; same = ap (λ (b : Bor (List ℕ)). Some b.now) c.new-2.ensures.inner };
      studies = (record { name = refl; text = ap (λ (b : Bor (List ℕ)). Some b.now) c.new-3.ensures.inner }, tt);
    })).faults)

pub returns-clause-texts : goal.returns-clause-texts
returns-clause-texts g c =
    let given = given_of c.args.dump.now (option_map (λ (b : Bor (List ℕ)). b.now) c.args.baseline) c.args.names.now c.args.study.now in
    let run = c.in_ok-ended.ensures.ended given
    (record {
      dump = ap (λ (b : Bor (List ℕ)). Some b.now) c.new.ensures.inner;
      baseline = record {
        given = c.reader_of.ensures.given ∙ still_given (λ (b : Bor (List ℕ)). b.now) c.args.baseline;
        same = same_bytes _ (λ b. refl) c.reader_of.result c.args.baseline c.reader_of.ensures.given c.reader_of.ensures.bytes;
      };
      names = record { given = refl; same = ap (λ (b : Bor (List ℕ)). Some b.now) c.new-2.ensures.inner };
      studies = (record { name = refl; text = ap (λ (b : Bor (List ℕ)). Some b.now) c.new-3.ensures.inner }, tt);
    }) in
    let ends = run.1.1 in
    record {
      study = run.0;
      begins = run.1.0;
      answered = ends.given;
      gives = ends.gives;
      replies_are = written c.into_inner.result _ _ _ (λ v. v.items) (whole_replies run.0.format ends.given) c.into_inner.ensures c.new-5.ensures.inner
          c.new-4.ensures.items ends.replies;
      errors_are = written c.into_inner-2.result _ _ _ (λ v. v.items) (errors_of ends.given) c.into_inner-2.ensures c.new-7.ensures.inner
          c.new-6.ensures.items ends.errors;
      summary_is = ends.summary;
      dump_is = text_given c.in_ok-ended.ended.dump (λ v. v.items) c.given_text.result.items c.given_text.ensures.given c.given_text.ensures.none
          ∙ ap (λ o. unwrap_or o []) ends.dump;
    }
