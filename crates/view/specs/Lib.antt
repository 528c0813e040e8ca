-- Definitions that the view's contracts cite.
pub mod Numbers
