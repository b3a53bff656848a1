use Rattle.std.proofs.Common.{◌≡◌, ℕ, List, subst, sym, ◌∙◌}
use Rattle.std.proofs.lemmas.Option.{IfSome_then}
use Rattle.host_io.specs.Watched.{inner_of}
use Rattle.network_files.specs.ParsedFiles.{IsFileOf, IsRefusalOf}
use Rattle.capture_report.specs.Runs.{IsFileEnd}
use Rattle.capture_report.proofs.Refusals.{AreRefused, refused_end}
use Rattle.capture_report.proofs.input.read_input.Goals as goal

pub returns-in-Ok-read_file-clause-parsed : goal.returns-in-Ok-read_file-clause-parsed
returns-in-Ok-read_file-clause-parsed g c =
    let parsed = c.in-Ok-read_file.parsed in
    IfSome_then (g.R.Read.remaining (inner_of c.args.file.now)) {P = λ (all : List ℕ). c.in-Ok.bytes.items ≡ all}
    {Q = λ (all : List ℕ). IsFileOf all parsed} c.in-Ok.ensures.whole
    (λ all same. subst (λ (bytes : List ℕ). IsFileOf bytes parsed) (c.deref.ensures.value ∙ same) c.in-Ok-read_file.ensures.parsed)

pub returns-clause-fault : goal.returns-clause-fault
returns-clause-fault g c =
    let known = g.R.Read.remaining (inner_of c.args.file.now) in
    let refused : AreRefused g.row.A.Denot known c.in-Err.fault =
    IfSome_then known {P = λ (all : List ℕ). c.in-Ok.bytes.items ≡ all} {Q = λ (all : List ℕ). IsRefusalOf g.row.A.Denot all c.in-Err.fault}
    c.in-Ok.ensures.whole
    (λ all same. subst (λ (bytes : List ℕ). IsRefusalOf g.row.A.Denot bytes c.in-Err.fault) (c.deref.ensures.value ∙ same) c.in-Err.ensures.fault) in
    subst (λ fault. IsFileEnd g.row.A.Denot known c.args.index fault) (sym c.refusal.ensures)
    (refused_end g.row.A.Denot known c.args.index c.in-Err.fault refused)
