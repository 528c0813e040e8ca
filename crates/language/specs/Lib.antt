-- Sets of plans: expressions, the three kinds of rules, the marked construction, and what each stage, expression and rule accepts.
pub mod Cuts
pub mod Language
pub mod Restriction
pub mod Marked
pub mod Recognizes
pub mod GivenLaws
pub mod StageLaws
pub mod Expression
pub mod Environment
pub mod Evaluate
pub mod Makes
pub mod Stagewise
pub mod Matches
pub mod ExpressionLaws
pub mod RuleLaws
