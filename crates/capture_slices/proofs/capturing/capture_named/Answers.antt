use Rattle.std.proofs.Common.{subst}
use Rattle.std.specs.List.{zip}
use Rattle.std.specs.String.{string_bytes}
use Rattle.capture_lines.specs.Reports.{AreReported}
use Rattle.capture_slices.specs.Captured.{given_named}
use Rattle.capture_slices.proofs.Texts.{texts_put}
use Rattle.capture_slices.proofs.capturing.capture_named.Goals as goal
use Rattle.lsdb.specs.Slots.{lists_of}

pub returns-clause-texts : goal.returns-clause-texts
returns-clause-texts g c =
    let given = given_named c.args.files.now c.args.lists.now in
    let made = c.in_ok-contents.field-0 in
    let parsed = made.contents.files.items in
    let database = lists_of made.contents.database in
    let report = c.in_ok-report.report in
    let lines = string_bytes report.files in
    let notices = string_bytes report.notices in
    let warnings = string_bytes report.warnings in
    texts_put c.args.flushed given c.in_ok-texts_of.field-0 lines notices warnings made.dump.items
    record {
      parsed = parsed;
      database = database;
      read = c.in_ok-read.read.items;
      made = c.in_ok-contents.ensures.made;
      are_lists = c.in_ok-read.ensures.lists;
      reported = subst
          (λ read. AreReported parsed database (zip given.names parsed) (zip given.list_names read) lines notices warnings)
          c.deref.ensures.value c.in_ok-report.ensures;
    }
    c.in_ok-texts_of.ensures.output c.in_ok-texts_of.ensures.contents c.in_ok-texts_of.ensures.warnings c.in_ok-texts_of.ensures.dump
