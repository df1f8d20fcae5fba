pub mod LogText
pub mod LogGrammar
pub mod WritableLogs
