use Rattle.report.proofs.WorkedCases.{automatic_days, cascade_day_text, dated_finals, edges_of_bars, explanation_texts}
use Rattle.report.proofs.WorkedCases.{lapsing_days, order_texts, realistic_days_text, realistic_final, refusal_lines}
use Rattle.report.proofs.WorkedCases.{samples}
use Rattle.report.proofs.worked.worked_texts.Goals as goal

pub returns : goal.returns
returns c =
    record {
      orders = order_texts;
      realistic_days = realistic_days_text;
      realistic_final = realistic_final;
      cascade = cascade_day_text;
      edges = edges_of_bars;
      automatic = automatic_days;
      explanations = explanation_texts;
      refusals = refusal_lines;
      lapsing = lapsing_days;
      dated = dated_finals;
      samples = samples;
    }
