-- Findings, as lines.
use Rattle.std.specs.Prelude.{ℕ, List, ◌++◌, codes, flat_map}
use Rattle.findings.specs.declared.finding.Finding.{Finding}
use Rattle.findings.specs.Texts.{finding_text}

-- the line of a finding in what has this name, its end included, as `r4-r5.pcap: Cut at 4711`
abbrev pub line_of : List ℕ → Finding → List ℕ
line_of name finding = name ++ codes ": " ++ finding_text finding ++ codes "\n"

abbrev pub finding_lines : List ℕ → List Finding → List ℕ
finding_lines name findings = flat_map (line_of name) findings
