mod Supplies
