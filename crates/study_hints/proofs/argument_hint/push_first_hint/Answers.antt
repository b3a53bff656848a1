use Rattle.std.proofs.Common.{codes, get_or, map, refl, sym, ◌∙◌}
use Rattle.study_hints.specs.declared.role.Role.TheVariants.{Area}
use Rattle.edit_script.specs.Words.{words}
use Rattle.network_names.specs.Names.{stands_for}
use Rattle.study_hints.specs.ArgumentHints.{argument_hint, first_hint}
use Rattle.study_hints.proofs.Pieces.{added}
use Rattle.study_hints.proofs.Roles.{all_fit, fits_here, piece_is, words_end, wrong_here}
use Rattle.study_hints.proofs.argument_hint.push_first_hint.Goals as goal

pub returns-in_default : goal.returns-in_default
returns-in_default g c =
    let names = stands_for c.args.names.now in
    let known = map (λ name. name.now) c.args.known.now in
    let text = c.loop-role.text.items in
    let hint = first_hint names known c.args.roles.now (words c.args.line.now) in
    piece_is c.extend_from_slice.result c.args.text.now.items text (codes "see help") hint _ c.loop-role.invariant.text
    (words_end names known c.args.roles.now c.loop-role.role-index hint (words c.loop-role.rest.now) c.in_default.ensures.value c.loop-role.invariant.hint)
    (added c.extend_from_slice.result text (codes "see help") (codes "see help") _ refl c.extend_from_slice.ensures.items)

pub returns-then-not-fits : goal.returns-then-not-fits
returns-then-not-fits g c =
    let names = stands_for c.args.names.now in
    let known = map (λ name. name.now) c.args.known.now in
    let roles = c.args.roles.now in
    let i = c.loop-role.role-index in
    let word = c.in-Some.at.word.now in
    let text = c.loop-role.text.items in
    let hint = first_hint names known roles (words c.args.line.now) in
    piece_is c.push_argument_hint.result c.args.text.now.items text (argument_hint known (get_or roles i Area) word) hint _ c.loop-role.invariant.text
    (wrong_here names known roles i hint Area c.loop-role-test.true word (words c.loop-role.rest.now) (words c.in-Some.at.rest.now)
    c.in-Some.ensures.value.0 c.loop-role.invariant.hint (sym c.fits.ensures ∙ c.if-not-fits.true))
    c.push_argument_hint.ensures

pub loop-role-preserved : goal.loop-role-preserved
loop-role-preserved g c =
    let names = stands_for c.args.names.now in
    let known = map (λ name. name.now) c.args.known.now in
    let roles = c.args.roles.now in record {
      text = c.loop-role.invariant.text;
      hint = fits_here names known roles c.loop-role.role-index (first_hint names known roles (words c.args.line.now)) Area c.loop-role-test.true
          c.in-Some.at.word.now (words c.loop-role.rest.now) (words c.in-Some.at.rest.now) c.in-Some.ensures.value.0 c.loop-role.invariant.hint
          (sym c.fits.ensures ∙ c.if-not-fits.false);
    }

pub returns : goal.returns
returns g c =
    let names = stands_for c.args.names.now in
    let known = map (λ name. name.now) c.args.known.now in
    let text = c.loop-role.text.items in
    let hint = first_hint names known c.args.roles.now (words c.args.line.now) in
    piece_is c.extend_from_slice-2.result c.args.text.now.items text (codes "see help") hint _ c.loop-role.invariant.text
    (all_fit names known c.args.roles.now c.loop-role.role-index hint (words c.loop-role.rest.now) c.loop-role-test.false c.loop-role.invariant.hint)
    (added c.extend_from_slice-2.result text (codes "see help") (codes "see help") _ refl c.extend_from_slice-2.ensures.items)
