use Rattle.recalculate.proofs.Caches.{none_kept}
use Rattle.recalculate.proofs.table_cache.TableCache.new.Goals as goal

pub returns-clause-cache : goal.returns-clause-cache
returns-clause-cache g c = λ db. none_kept db c.new.result c.new.ensures
