use Rattle.std.proofs.Common.{ap, ◌∙◌, arith}
use Rattle.session_table.specs.Charges.{charged_in}
use Rattle.session_table.specs.Tables.{TableView}
use Rattle.session_table.proofs.tables.Sessions.forget_days_before.Goals as goal

pub returns-clause-table : goal.returns-clause-table
returns-clause-table c = record {
  sessions = ap (λ (v : TableView). v.sessions) c.self.view_is;
  active = ap (λ (v : TableView). v.active) c.self.view_is;
  begun = ap (λ (v : TableView). v.begun) c.self.view_is;
  charged = λ u r d le. c.forget_days.ensures.kept u r d (omega (arith, le, c.day.ensures)) ∙ ap (λ (v : TableView). charged_in v.charges u r d) c.self.view_is;
}

pub invariant_of-self : goal.invariant_of-self
invariant_of-self c = record {
  kept = record {
    few = c.self.invariant.kept.few;
    index = c.self.invariant.kept.index;
    once = c.self.invariant.kept.once;
    bounded = λ u r d. let le = c.forget_days.ensures.less u r d in omega (arith, le, c.self.invariant.kept.bounded u r d);
  };
  counted = c.self.invariant.counted;
  numbered = c.self.invariant.numbered;
}
