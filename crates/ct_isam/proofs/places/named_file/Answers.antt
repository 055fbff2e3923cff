use Rattle.std.proofs.Common.{◌≡◌, ℕ, ◌<◌, List, length, true, Some, refl, sym, ap, ◌∙◌, subst, arith, get_or, slice_get, bytes_eq}
use Rattle.std.proofs.lemmas.List.Quantifiers.{position-Some}
use Rattle.std.proofs.lemmas.Option.{slice_get_read}
use Rattle.ct_definitions.specs.declared.store.File.{File}
use Rattle.ct_definitions.specs.Reached.{rise_above}
use Rattle.ct_model.specs.Fitting.{is_fitting}
use Rattle.ct_model.proofs.KeysRead.{list_all-get_or}
use Rattle.ct_isam.proofs.places.named_file.Goals as goal

pub returns-in-Ok-clause-ok : goal.returns-in-Ok-clause-ok
returns-in-Ok-clause-ok c =
    let state = c.args.state.now in
    let place = c.in-Some.place in
    let file : File = c.index-files-place.result in
    let same : c.in-Ok.file ≡ place = omega (arith, c.in-Ok.ensures) in
    let within : place < length state = (position-Some (λ (f : File). bytes_eq f.def.name c.args.name.now) state place file (sym c.in-Some.ensures)).0 in
    let read : file ≡ get_or state place file = c.index-files-place.is ∙ ap (λ (files : List File). get_or files place file) c.files.ensures.files in
    let there : slice_get state place ≡ Some file = slice_get_read state (length state) place file refl within read in
    record {
      number = sym c.in-Some.ensures ∙ ap Some (sym same);
      found = subst (λ (n : ℕ). slice_get state n ≡ Some file) (sym same) there;
      fitting = subst (λ (f : File). is_fitting f ≡ true) (sym read) (list_all-get_or is_fitting state place file c.files.ensures.fitting within);
      rising = subst (λ (f : File). rise_above 0 f.records ≡ true) (sym read) (list_all-get_or (λ (f : File). rise_above 0 f.records) state place file c.files.ensures.rising within);
    }
