use Rattle.lsa_codec.specs.declared.address.RouterId.{RouterId}
use Rattle.lsa_codec.specs.Spelling.{address_text}
use Rattle.route_lines.specs.PathTexts.{end_text}
use Rattle.study_documents.proofs.Numbers.{on_ok, strings_have}
use Rattle.study_documents.proofs.routes.push_path.Goals as goal

pub returns-clause-numbers : goal.returns-clause-numbers
returns-clause-numbers g c =
    on_ok c.push_steps.result
    (λ more. (
      tt,
      (tt, (strings_have end_text c.args.path.now.ends, (strings_have (λ (r : RouterId). address_text r.0) c.args.path.now.routers, more))),
    ))
    c.push_steps.ensures.numbers
