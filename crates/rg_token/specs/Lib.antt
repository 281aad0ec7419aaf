pub mod Token
pub mod Lexing
pub mod Layout
pub mod Automaton
