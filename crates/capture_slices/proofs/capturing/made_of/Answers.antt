use Rattle.std.proofs.Common.{◌∙◌, ap, sym, subst, List, ℕ, ◌++◌, Some, map, inl}
use Rattle.std.proofs.lemmas.Simd.{map-map}
use Rattle.capture_report.specs.Runs.{AreParsed, MayEndRun, known}
use Rattle.capture_slices.proofs.GivenLists.{parsed_of}
use Rattle.capture_slices.proofs.capturing.made_of.Goals as goal
use Rattle.network_files.specs.Dumps.{IsDump}

pub returns-in-Ok-clause-made : goal.returns-in-Ok-clause-made
returns-in-Ok-clause-made g c =
    let bytes = map (λ file. file.bytes.now) c.args.files.now in
    let parsed = c.in-Ok.contents.files.items in
    let shown =
    ap (λ readers. known (λ text. Some text.now) readers) c.deref_mut.ensures.value
    ∙ c.in_ok-readers.ensures.bytes ∙ sym (map-map (λ text. Some text) (λ file. file.bytes.now) c.args.files.now) in
    let written =
    ap (λ dump. dump.items) c.into_inner.ensures ∙ c.in-Ok.ensures.dump.1.1
    ∙ ap (λ (front : List ℕ). front ++ c.in-Ok.ensures.dump.0) (ap (λ dump. dump.items) c.new-dump.ensures.inner ∙ c.new.ensures.items) in
    record {
      are_parsed = parsed_of bytes parsed (subst (λ given. AreParsed given parsed) shown c.in-Ok.ensures.parsed);
      joined = c.in-Ok.ensures.database;
      dump_is = subst (IsDump c.args.flushed parsed) (sym written) c.in-Ok.ensures.dump.1.0;
    }

pub returns-clause-fault : goal.returns-clause-fault
returns-clause-fault g c =
    let shown =
    ap (λ readers. known (λ text. Some text.now) readers) c.deref_mut.ensures.value
    ∙ c.in_ok-readers.ensures.bytes ∙ sym (map-map (λ text. Some text) (λ file. file.bytes.now) c.args.files.now) in
    inl record {
      why = c.in-Err.fault;
      may_end = subst (λ given. MayEndRun g.row.A.Denot c.args.flushed given c.in-Err.fault) shown c.in-Err.ensures.faults;
      is_named = c.fault_in.ensures;
    }
