use Rattle.std.proofs.Common.{arith, ℕ, List, ◌++◌, take, drop, ap, ◌∙◌, append_assoc}
use Rattle.std.proofs.lemmas.List.{take_at, drop_at, length-take, length-append}
use Rattle.byteorder.specs.Endian.{big_bytes}
use Rattle.lsa_codec.proofs.Bytes.{length-put_at}
use Rattle.lsa_codec.proofs.Made.{checksum_made, with_checksum-good}
use Rattle.lsa_codec.proofs.laws.made_checksum_is_good.Goals as goal

pub returns-clause-good : goal.returns-clause-good
returns-clause-good c lsa le = with_checksum-good lsa (omega arith)

pub returns-clause-before : goal.returns-clause-before
returns-clause-before c lsa le =
    let bytes : List ℕ = big_bytes 2 (checksum_made lsa) in
    ap (take 16) (append_assoc (take 16 lsa) bytes (drop 18 lsa)) ∙ take_at (take 16 lsa) (bytes ++ drop 18 lsa) 16 (omega (arith, length-take 16 lsa))

pub returns-clause-after : goal.returns-clause-after
returns-clause-after c lsa le =
    let bytes : List ℕ = big_bytes 2 (checksum_made lsa) in
    drop_at (take 16 lsa ++ bytes) (drop 18 lsa) 18 (omega (arith, length-take 16 lsa, length-append (take 16 lsa) bytes))

pub returns-clause-size : goal.returns-clause-size
returns-clause-size c lsa le = length-put_at 16 (big_bytes 2 (checksum_made lsa)) lsa (omega arith)
