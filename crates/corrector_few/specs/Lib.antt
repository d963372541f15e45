-- What is meant: a locator polynomial of low degree.
pub mod Locators
