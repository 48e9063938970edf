use Rattle.std.proofs.Common.{◌≡◌, None, sym, subst}
use Rattle.std.proofs.lemmas.Result.{IfOk-weaker}
use Rattle.admit_core.specs.declared.tables.Tables.{Tables}
use Rattle.admit_core.specs.Ranges.{AreTables}
use Rattle.admit_core.specs.Relations.{first_fault}
use Rattle.sample_gen.specs.Samples.{sample_tables}
use Rattle.sample_gen.proofs.Faultless.{sample_faultless}
use Rattle.sample_gen.proofs.SampleRanges.{sample_ranges}
use Rattle.sample_gen.proofs.slots.sample.Goals as goal

pub returns-clause-ranges : goal.returns-clause-ranges
returns-clause-ranges c =
    let n = c.args.number in
    IfOk-weaker c.tables_of.result (λ t. t ≡ sample_tables n) AreTables
    (λ t is. subst AreTables (sym is) (sample_ranges n c.requires.at_most)) c.tables_of.ensures

pub returns-clause-faultless : goal.returns-clause-faultless
returns-clause-faultless c =
    let n = c.args.number in
    IfOk-weaker c.tables_of.result (λ t. t ≡ sample_tables n) (λ t. first_fault t ≡ None)
    (λ t is. subst (λ (u : Tables). first_fault u ≡ None) (sym is) (sample_faultless n c.requires.at_most))
    c.tables_of.ensures
