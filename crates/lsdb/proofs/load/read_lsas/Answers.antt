use Rattle.std.proofs.Common.{[], ◌∷◌, Some, length, length-append, arith, ◌++◌, ◌∙◌, ap, sym, subst, map, List, ℕ, ◌≡◌, ◌≢◌, option_map}
use Rattle.std.specs.Prelude.{All, AllPairs}
use Rattle.lsa_codec.specs.Key.{key_of}
use Rattle.lsdb.proofs.SectionText.{apart_push}
use Rattle.std.proofs.lemmas.Bool.{not-false, not-true}
use Rattle.std.proofs.lemmas.List.Elements.{All-nil, All-cons, All-append}
use Rattle.std.proofs.lemmas.Result.{err_from_is_err_and}
use Rattle.lsdb.specs.KeyRanges.{HaveWidths}
use Rattle.lsdb.specs.Slots.{full}
use Rattle.lsdb.specs.steps.View.{head_of}
use Rattle.lsdb.specs.steps.Reading.{at_of}
use Rattle.lsdb.specs.Loading.{has_key_of, first_lsa_at}
use Rattle.lsdb.proofs.Full.{full-push}
use Rattle.lsdb.proofs.Fronts.{want_after, lsa_front, first_read, first_lsa}
use Rattle.lsdb.proofs.Keys.{inserted, keys_push}
use Rattle.lsdb.proofs.Loop.{lsas_goes_on, lsas_end, lsas_twice, lsas_done}
use Rattle.lsdb.proofs.load.read_lsas.Goals as goal

pub returns-in_err-lsa-clause-lsas : goal.returns-in_err-lsa-clause-lsas
returns-in_err-lsa-clause-lsas g c =
    let p = err_from_is_err_and c.from_residual.result c.from_residual.ensures.1 in
    rw (p.1, p.2) (lsas_end c.in_err-lsa.field-0.0 (option_map head_of c.args.area) c.args.count c.loop.counter
    (full c.loop.slots.items) (at_of c.loop.at) _ c.loop-test.true c.in_err-lsa.ensures.lsa c.loop.invariant.reading)

pub returns-then-not-branch-clause-lsas : goal.returns-then-not-branch-clause-lsas
returns-then-not-branch-clause-lsas g c =
    let seen = full c.loop.slots.items in
    let reported = inserted c.loop.keys seen c.in_ok-lsa.lsa c.key_of.result c.in_ok-insert.field-0 c.loop.invariant.keys c.key_of.ensures.key c.in_ok-insert.ensures.added in
    let again = not-false (has_key_of seen c.in_ok-lsa.lsa) (sym reported ∙ c.if-not-branch.true) in
    rw c.fault.ensures (lsas_twice (option_map head_of c.args.area) c.args.count c.loop.counter seen (at_of c.loop.at)
    (at_of c.in_ok-lsa.after) c.in_ok-lsa.lsa _ c.loop-test.true c.in_ok-lsa.ensures.lsa again c.loop.invariant.reading)

pub loop-preserved : goal.loop-preserved
loop-preserved g c =
    let seen = full c.loop.slots.items in
    let reported = inserted c.loop.keys seen c.in_ok-lsa.lsa c.key_of.result c.in_ok-insert.field-0 c.loop.invariant.keys c.key_of.ensures.key c.in_ok-insert.ensures.added in
    let new = not-true (has_key_of seen c.in_ok-lsa.lsa) (sym reported ∙ c.if-not-branch.false) in
    let pushed : full c.push.new.self.items ≡ seen ++ c.in_ok-lsa.lsa ∷ [] =
    ap full c.in_ok-push.ensures.items ∙ full-push c.loop.slots.items c.in_ok-lsa.lsa in
    record {
      reading =
          rw pushed (lsas_goes_on (option_map head_of c.args.area) c.args.count c.loop.counter seen (at_of c.loop.at)
          (at_of c.in_ok-lsa.after) c.in_ok-lsa.lsa _ c.loop-test.true c.in_ok-lsa.ensures.lsa new c.loop.invariant.reading);
      keys =
          rw pushed
          (keys_push c.loop.keys c.insert.new.self seen c.in_ok-lsa.lsa c.key_of.result c.loop.invariant.keys c.key_of.ensures.key c.in_ok-insert.ensures.updates);
      apart = subst (λ (xs : List (List ℕ)). AllPairs (λ a b. a ≢ b) (map key_of xs)) (sym pushed) (apart_push seen c.in_ok-lsa.lsa c.loop.invariant.apart new);
      widths =
          subst (λ (xs : List (List ℕ)). All HaveWidths xs) (sym pushed)
          (All-append HaveWidths seen (c.in_ok-lsa.lsa ∷ []) c.loop.invariant.widths
          (All-cons HaveWidths c.in_ok-lsa.lsa [] c.key_of.ensures.widths (All-nil HaveWidths)));
      same = λ e. absurd (omega (arith, e));
      first =
          λ lt.
          first_read (first_lsa_at 1) c.loop.counter (at_of c.args.start) (at_of c.loop.at) c.loop.invariant.same c.loop.invariant.first
          (lsa_front (option_map head_of c.args.area) (at_of c.loop.at) (c.in_ok-lsa.lsa, at_of c.in_ok-lsa.after) c.in_ok-lsa.ensures.lsa);
      few = omega (arith, ap length c.in_ok-push.ensures.items, length-append c.loop.slots.items (Some c.in_ok-lsa.lsa ∷ []), c.loop.invariant.few);
    }

pub returns-clause-lsas : goal.returns-clause-lsas
returns-clause-lsas g c =
    lsas_done (option_map head_of c.args.area) c.args.count c.loop.counter (full c.loop.slots.items)
    (at_of c.loop.at) _ c.loop-test.false c.loop.invariant.reading

pub returns-in_err-lsa-clause-memory : goal.returns-in_err-lsa-clause-memory
returns-in_err-lsa-clause-memory g c =
    let p = err_from_is_err_and c.from_residual.result c.from_residual.ensures.1 in
    rw (p.1, p.2)
    (want_after c.in_err-lsa.field-0.0 (first_lsa_at 1 (at_of c.loop.at)) (first_lsa_at c.args.count (at_of c.args.start))
    (λ ok. first_lsa c.loop.counter c.args.count (at_of c.args.start) c.loop-test.true
    (first_read (first_lsa_at 1) c.loop.counter (at_of c.args.start) (at_of c.loop.at) c.loop.invariant.same c.loop.invariant.first ok))
    c.in_err-lsa.ensures.memory)

pub returns-in_err-insert-clause-memory : goal.returns-in_err-insert-clause-memory
returns-in_err-insert-clause-memory g c =
    let p = err_from_is_err_and c.from_residual-in_err-insert.result c.from_residual-in_err-insert.ensures.1 in
    rw (p.1, p.2) (first_lsa c.loop.counter c.args.count (at_of c.args.start) c.loop-test.true
    (first_read (first_lsa_at 1) c.loop.counter (at_of c.args.start) (at_of c.loop.at) c.loop.invariant.same c.loop.invariant.first
    (lsa_front (option_map head_of c.args.area) (at_of c.loop.at) (c.in_ok-lsa.lsa, at_of c.in_ok-lsa.after) c.in_ok-lsa.ensures.lsa)))

pub returns-in_err-push-clause-memory : goal.returns-in_err-push-clause-memory
returns-in_err-push-clause-memory g c =
    let p = err_from_is_err_and c.from_residual-in_err-push.result c.from_residual-in_err-push.ensures.1 in
    rw (p.1, p.2) (first_lsa c.loop.counter c.args.count (at_of c.args.start) c.loop-test.true
    (first_read (first_lsa_at 1) c.loop.counter (at_of c.args.start) (at_of c.loop.at) c.loop.invariant.same c.loop.invariant.first
    (lsa_front (option_map head_of c.args.area) (at_of c.loop.at) (c.in_ok-lsa.lsa, at_of c.in_ok-lsa.after) c.in_ok-lsa.ensures.lsa)))
