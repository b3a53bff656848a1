use Rattle.std.proofs.Common.{◌∙◌, sym, inl, inr, true≢false}
use Rattle.capture_files.specs.Pcapng.{IsPcapng, IsPcapngFault}
use Rattle.network_files.specs.Kinds.{kind_of}
use Rattle.network_files.specs.ParsedFiles.{lists_in_file}
use Rattle.network_files.proofs.Once.{one_reading}
use Rattle.network_files.proofs.Refused.{IsNotRefused, memory_alone}
use Rattle.network_files.proofs.laws.one_reading_of_a_file.Goals as goal

pub returns-clause-same : goal.returns-clause-same
returns-clause-same g c =
    λ bytes one two a b.
    one_reading c.one_reading_of_pcap.ensures.one c.one_reading_of_pcapng.ensures.one bytes (lists_in_file one) (lists_in_file two) (kind_of bytes)
    a.content b.content

pub returns-clause-refused : goal.returns-clause-refused
returns-clause-refused g c =
    let pcapng : IsNotRefused IsPcapngFault IsPcapng = λ file parsed fault a b n.
    elim b as (λ _. ⊥) [
      | inl e ↦ n e
      | inr r ↦ elim r as (λ _. ⊥) [
        | inl p ↦ true≢false (sym a.headed ∙ p.1)
        | inr q ↦ c.one_reading_of_pcapng.ensures.refused file parsed q.1 q.0 a q.2.1
      ]
    ] in
    λ bytes file fault a b. memory_alone c.one_reading_of_pcap.ensures.refused pcapng (kind_of bytes) bytes (lists_in_file file) fault a.content b
