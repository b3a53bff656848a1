use Rattle.std.proofs.Math.Path.{fun_ext}
use Rattle.study_json.proofs.unnamed.no_names.Goals as goal

pub returns : goal.returns
returns g c = fun_ext (λ router. c.new.ensures.routers router)
