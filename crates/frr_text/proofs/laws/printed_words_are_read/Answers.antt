use Rattle.frr_text.proofs.PrintedWords.{lsa_is_words, one_word, words_beside, words_joined}
use Rattle.frr_text.proofs.laws.printed_words_are_read.Goals as goal

pub returns-clause-words : goal.returns-clause-words
returns-clause-words c = lsa_is_words

pub returns-clause-word : goal.returns-clause-word
returns-clause-word c = one_word

pub returns-clause-blank : goal.returns-clause-blank
returns-clause-blank c = words_beside

pub returns-clause-joined : goal.returns-clause-joined
returns-clause-joined c = λ printed blank all h. words_joined blank printed h all
