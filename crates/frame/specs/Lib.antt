-- What stands before a book's lines and behind them.
pub mod Frame
