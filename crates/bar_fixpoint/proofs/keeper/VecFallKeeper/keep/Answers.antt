use Rattle.std.proofs.Common.{ap, ◌∙◌, refl, ◌∷◌, ◌++◌, [], ◌-◌}
use Rattle.admit_core.specs.declared.records.Fall.{Fall}
use Rattle.bar_fixpoint.proofs.OneFall.{rank_from_one, fall_made}
use Rattle.bar_fixpoint.proofs.keeper.VecFallKeeper.keep.Goals as goal

pub overflow_sub-fall : goal.overflow_sub-fall
overflow_sub-fall g c =
    let f = g.F.Falling in
    rank_from_one (f.system c.args.system.now) (g.met.F.Falling.lawful c.args.system.now)
    (f.bars c.args.system.now) c.args.school
    c.requires.under c.requires.over _ _ c.requires.rank refl

pub returns : goal.returns
returns g c =
    let f = g.F.Falling in
    let made : Fall = record {
      school = c.args.school;
      from = c.bar.result;
      to = c.args.rank - 1;
      wishes = c.from_vec.result;
    } in
    λ falls has.
    c.in_ok-push.ensures.items ∙ ap (λ fs. fs ++ made ∷ []) has
    ∙ ap (λ (fall : Fall). falls ++ fall ∷ [])
    (fall_made (f.system c.args.system.now) (g.met.F.Falling.lawful c.args.system.now)
    (f.bars c.args.system.now) c.args.school
    c.requires.under c.requires.over _ _ _ _ _ c.requires.rank refl c.bar.ensures
    c.in_ok-names.ensures c.from_vec.ensures)
