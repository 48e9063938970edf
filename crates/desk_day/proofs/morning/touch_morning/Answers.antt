use Rattle.std.proofs.Common.{◌∙◌, ◌≡◌, ◌<◌, List, ap, length, subst, sym}
use Rattle.std.specs.Prelude.{All}
use Rattle.std.proofs.lemmas.List.Elements.{All-same}
use Rattle.std.specs.Option.{option_copied}
use Rattle.admit_core.specs.declared.records.Lapse.{Lapse}
use Rattle.admit_core.specs.declared.state.Mark.{Mark}
use Rattle.admit_core.specs.DossierRows.{DossierRows}
use Rattle.admit_core.specs.AutoAnswer.{auto_all}
use Rattle.desk_day.specs.Once.{NamesSame}
use Rattle.desk_day.proofs.DayPlaces.{lapsed_in}
use Rattle.desk_day.proofs.OnceEach.{others_stay}
use Rattle.desk_day.proofs.Touching.{morning_answered, morning_others}
use Rattle.desk_day.proofs.morning.touch_morning.Goals as goal

pub list_touched-requires : goal.list_touched-requires
list_touched-requires c =
    let s = c.args.state.now in
    let same : c.make_morning.new.state.dossier ≡ s.dossier = c.make_morning.ensures.dossier in
    let P : DossierRows → Type 0 = λ d. All (λ (l : Lapse). l.wish < length d.wishes) c.as_slice.result.now in
    subst P (sym same) (All-same (λ (l : Lapse). l.wish < length s.dossier.wishes) c.as_slice.result.now _
    (c.as_slice.ensures.value ∙ c.in_ok-lapsed.ensures)
    (lapsed_in (option_copied c.args.terms) c.args.day s c.requires.before))

pub returns-clause-begun : goal.returns-clause-begun
returns-clause-begun c =
    record {
      lapses = c.in_ok-lapsed.ensures;
      fits = c.in_ok-make_morning.ensures.fits;
      state = c.in_ok-make_morning.ensures.morning;
    }

pub returns-clause-touched : goal.returns-clause-touched
returns-clause-touched c =
    let s = c.args.state.now in
    let terms = option_copied c.args.terms in
    let m = c.make_morning.new.state in
    let same : m.dossier ≡ s.dossier = c.make_morning.ensures.dossier in
    let long : length s.marks ≡ length s.dossier.wishes =
    ap (λ (ms : List Mark). length ms) (sym c.marks.ensures.marks) ∙ c.marks.ensures.one_each in
    let gone = c.as_slice.ensures.value ∙ c.in_ok-lapsed.ensures in
    let all = c.in_ok-touched.touched.items in
    let once = c.keep_one_of_each.new.places.items in
    let names = c.keep_one_of_each.ensures.names in
    let others = morning_others terms c.args.day s m c.as_slice.result.now all long c.requires.before
    c.in_ok-make_morning.ensures.morning gone c.in_ok-touched.ensures.listed in
    let answered = morning_answered terms c.args.day s m c.as_slice.result.now all long c.requires.before
    c.in_ok-make_morning.ensures.morning gone c.in_ok-touched.ensures.listed in
    record {
      within = names.within;
      others = others_stay s m all once (subst (λ (d : DossierRows). NamesSame d all once) same names) others;
      answered = λ was stamp. others_stay m (auto_all m stamp) all once names (answered was stamp);
    }
