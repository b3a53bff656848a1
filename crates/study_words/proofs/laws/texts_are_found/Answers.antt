use Rattle.study_words.specs.Written.{plan, see, event, condition, route, audit, failure, compare}
use Rattle.study_words.proofs.TextLemmas.{study_word_found, word_found}
use Rattle.study_words.proofs.laws.texts_are_found.Goals as goal

pub returns : goal.returns
returns c = record {
  command = study_word_found;
  plan = λ w. word_found (plan w);
  see = λ w. word_found (see w);
  event = λ w. word_found (event w);
  condition = λ w. word_found (condition w);
  route = λ w. word_found (route w);
  audit = λ w. word_found (audit w);
  failure = λ w. word_found (failure w);
  comparison = λ w. word_found (compare w);
}
