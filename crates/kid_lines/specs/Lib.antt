pub mod LineAnswers
pub mod LineReading
pub mod LineSpelling
pub mod RuleReading
pub mod RuleSpelling
