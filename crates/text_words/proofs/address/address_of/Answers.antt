use Rattle.std.proofs.Common.{Some, sym, ap, ◌∙◌, ℕ}
use Rattle.text_words.proofs.AddressLemmas.{address_parsed, address_unparsed}
use Rattle.text_words.proofs.address.address_of.Goals as goal

pub returns-in-Ok : goal.returns-in-Ok
returns-in-Ok c =
    ap (λ (n : ℕ). Some n) c.to_bits.ensures ∙ sym (address_parsed c.args.word.now c.in-Ok.address c.in-Ok.ensures)

pub returns-in-Err : goal.returns-in-Err
returns-in-Err c = sym (address_unparsed c.args.word.now c.in-Err.ensures)
