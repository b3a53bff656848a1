use Rattle.std.proofs.Common.{ap, ◌∙◌}
use Rattle.findings.specs.Contents.{ContentLists, content_of}
use Rattle.lsdb_listing.proofs.list.read_list.Goals as goal

pub returns-clause-headers : goal.returns-clause-headers
returns-clause-headers g c =
    ap (λ (content : ContentLists g.row.A.Denot). content.headers) (c.in_ok-headers.ensures ∙ ap content_of c.in_ok-parts.ensures)

pub returns-clause-findings : goal.returns-clause-findings
returns-clause-findings g c =
    ap (λ (content : ContentLists g.row.A.Denot). content.findings) (c.in_ok-headers.ensures ∙ ap content_of c.in_ok-parts.ensures)
