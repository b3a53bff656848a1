use Rattle.std.proofs.Common.{arith, ◌≡◌, ◌≤◌, ℕ, List, length}
use Rattle.lsdb.specs.Slots.{lists_of}
use Rattle.lsdb.specs.steps.View.{slots_of}
use Rattle.lsdb.specs.steps.Reading.{at_of}
use Rattle.lsdb.specs.BaseLoading.{most_bytes}
use Rattle.lsdb.proofs.BaseParts.{base_too_large, base_read}
use Rattle.lsdb.proofs.base.read_base.Goals as goal

few : (bytes : List ℕ) (limit : ℕ) → limit ≡ most_bytes bytes → length bytes ≤ limit → length bytes ≤ most_bytes bytes
few bytes limit is le = omega (arith, is, le)

pub returns-then-end-gt-LONGEST_DUMP-clause-base : goal.returns-then-end-gt-LONGEST_DUMP-clause-base
returns-then-end-gt-LONGEST_DUMP-clause-base g c =
    let bytes : List ℕ = c.args.bytes.now in
    base_too_large bytes (lists_of (slots_of c.in_ok-sections.sections.items)) (at_of c.in_ok-sections.end) (λ i. omega (arith, c.type_inv.bytes i))
    (few bytes c.most_bytes.result c.most_bytes.ensures c.if-most_bytes-bytes.false) c.in_ok-sections.ensures.base c.if-end-gt-LONGEST_DUMP.true

pub returns-clause-base : goal.returns-clause-base
returns-clause-base g c =
    let bytes : List ℕ = c.args.bytes.now in
    base_read bytes (lists_of (slots_of c.in_ok-sections.sections.items)) (at_of c.in_ok-sections.end) (λ i. omega (arith, c.type_inv.bytes i))
    (few bytes c.most_bytes.result c.most_bytes.ensures c.if-most_bytes-bytes.false) c.in_ok-sections.ensures.base c.if-end-gt-LONGEST_DUMP.false
