pub mod MoveView
pub mod PlainRule
pub mod RuleCode
pub mod RuleView
