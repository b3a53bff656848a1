use Rattle.std.proofs.Common.{subst}
use Rattle.std.specs.Prelude.{IfErr, IfOk}
use Rattle.network_files.specs.declared.kind.FileKind.{FileKind}
use Rattle.network_files.specs.ParsedFiles.{IsFileAs, IsRefusalAs}
use Rattle.network_files.proofs.parsed_file.read_file.Goals as goal

pub returns-clause-parsed : goal.returns-clause-parsed
returns-clause-parsed g c =
    subst (λ (kind : FileKind). IfOk c.read_as.result (λ file. IsFileAs kind c.args.bytes.now file)) c.of.ensures c.read_as.ensures.parsed

pub returns-clause-fault : goal.returns-clause-fault
returns-clause-fault g c =
    subst (λ (kind : FileKind). IfErr c.read_as.result (λ fault. IsRefusalAs g.row.A.Denot kind c.args.bytes.now fault)) c.of.ensures
    c.read_as.ensures.fault
