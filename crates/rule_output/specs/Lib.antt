pub mod RuleOutput
